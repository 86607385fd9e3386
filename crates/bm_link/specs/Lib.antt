pub mod Places
pub mod Operations
pub mod Sides
pub mod References
pub mod Links
