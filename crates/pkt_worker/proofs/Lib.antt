pub mod Chosen
pub mod HeaderFields
pub mod HitBounds
pub mod NextNodes
pub mod Parts
pub mod Samples
pub mod Walks
