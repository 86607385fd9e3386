pub mod Resolved
pub mod Lookups
pub mod Valid
pub mod Answers
