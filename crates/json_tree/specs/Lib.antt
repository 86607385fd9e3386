pub mod Nodes
pub mod View
pub mod Packed
pub mod Behind
pub mod Building
