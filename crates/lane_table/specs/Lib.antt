pub mod Lanes
pub mod Ruling
pub mod Laws
