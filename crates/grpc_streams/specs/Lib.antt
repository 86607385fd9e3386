pub mod Messages
pub mod Requests
pub mod Taking
pub mod Answers
pub mod Spelling
pub mod Laws
