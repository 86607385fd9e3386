pub mod Answers
pub mod Counts
pub mod Memory
pub mod MemoryNet
pub mod Real
pub mod Told
