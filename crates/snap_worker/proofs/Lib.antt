pub mod Bounds
pub mod Counted
pub mod Later
pub mod Noting
