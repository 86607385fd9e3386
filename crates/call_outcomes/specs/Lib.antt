pub mod Messages
pub mod Prepared
