pub mod Calls
pub mod Finishing
pub mod Locked
pub mod Passing
pub mod Reading
