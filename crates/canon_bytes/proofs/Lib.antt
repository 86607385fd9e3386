pub mod Numbers
pub mod Progress
pub mod Canons
pub mod Base128Steps
