pub mod Walk
pub mod Message
pub mod Numbers
pub mod Answers
pub mod Scans
pub mod Written
pub mod Laws
