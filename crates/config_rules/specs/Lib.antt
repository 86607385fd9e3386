pub mod Answers
pub mod Flaw
