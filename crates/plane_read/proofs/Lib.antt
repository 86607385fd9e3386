pub mod CellSteps
pub mod Chunks
pub mod Selected
pub mod Shown
