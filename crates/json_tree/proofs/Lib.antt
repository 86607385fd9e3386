pub mod Growing
pub mod Finding
pub mod Places
pub mod Converting
pub mod Values
pub mod Turns
pub mod Closing
pub mod Suffixes
