mod Closing
mod Going
pub mod Meeting
mod Standing
mod Turning
