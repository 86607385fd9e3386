mod EightBytes
mod LaidBits
pub mod Extracts
pub mod Inside
pub mod Keys
pub mod Opened
pub mod Parses
pub mod Places
pub mod Runs
pub mod Weights
pub mod Written
