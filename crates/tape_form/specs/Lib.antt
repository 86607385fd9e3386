pub mod Calls
pub mod LaneLines
pub mod Parsed
pub mod TapeRead
