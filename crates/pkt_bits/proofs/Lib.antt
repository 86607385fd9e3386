pub mod Low
pub mod Pieces
