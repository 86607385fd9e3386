pub mod Hits
pub mod NoRepeat
pub mod OneWalk
pub mod Orderly
pub mod WorkedPackets
