pub mod Failures
pub mod Answers
pub mod Borrowed
pub mod Laws
