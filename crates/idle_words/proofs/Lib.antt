pub mod Greatest
pub mod Keeping
pub mod Scanning
pub mod Naming
pub mod Stamping
