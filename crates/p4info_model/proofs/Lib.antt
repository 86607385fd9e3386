pub mod Positions
pub mod Kept
pub mod Validity
pub mod Back
