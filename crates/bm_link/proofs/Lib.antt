pub mod Standing
pub mod Pushes
pub mod Answered
pub mod Sums
