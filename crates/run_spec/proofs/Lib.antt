pub mod Determined
pub mod Fitting
pub mod Following
pub mod Meeting
pub mod Playing
pub mod Readers
pub mod TapeItems
pub mod WorkedRows
