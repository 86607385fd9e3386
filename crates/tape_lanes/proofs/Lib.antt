pub mod ByLane
pub mod Giving
pub mod Items
