pub mod Laid
pub mod Room
pub mod Steps
pub mod Sums
