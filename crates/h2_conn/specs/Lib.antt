pub mod Apart
pub mod Frames
pub mod Bytes
pub mod Continuations
pub mod Sends
pub mod History
pub mod Bounds
