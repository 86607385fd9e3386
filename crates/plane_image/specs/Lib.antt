pub mod Image
pub mod Replaced
pub mod Taking
