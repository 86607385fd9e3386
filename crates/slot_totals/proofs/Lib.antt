pub mod CellSteps
pub mod Counted
pub mod Sorting
