pub mod Places
pub mod Spread
pub mod Sums
pub mod Keeping
pub mod Loading
pub mod Slots
