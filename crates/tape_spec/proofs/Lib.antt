pub mod Flaws
pub mod ItemReaders
pub mod LaneReaders
pub mod TapeItems
pub mod Tapes
