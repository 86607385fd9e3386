pub mod Dealing
pub mod Lanes
pub mod Laws
