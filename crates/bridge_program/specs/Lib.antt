pub mod BridgeInfo
pub mod Spelled
