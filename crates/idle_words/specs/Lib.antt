pub mod Moments
pub mod Account
pub mod Touching
pub mod Idle
pub mod Scan
pub mod Laws
