pub mod Changing
pub mod Following
pub mod Numbering
pub mod AtFirst
pub mod Outcomes
pub mod Scoping
pub mod Taking
