pub mod Bins
pub mod Cuts
pub mod Index
pub mod Order
pub mod Scan
pub mod Shapes
