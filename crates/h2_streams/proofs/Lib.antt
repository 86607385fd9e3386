pub mod Pieces
pub mod Places
pub mod Drains
pub mod Flushes
