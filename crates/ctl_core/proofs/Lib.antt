pub mod Arbitrating
pub mod Handling
pub mod Leading
