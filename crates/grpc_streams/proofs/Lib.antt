pub mod Places
pub mod Splits
pub mod StatusFields
pub mod Begins
pub mod Cuts
