pub mod Filling
pub mod Lane
pub mod Laws
