pub mod Posting
pub mod Ticks
