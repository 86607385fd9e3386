pub mod Copies
pub mod Hits
pub mod Headers
pub mod Scratches
pub mod Slots
pub mod Verdicts
