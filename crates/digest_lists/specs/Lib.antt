pub mod Data
pub mod State
pub mod Sending
pub mod Fold
pub mod Laws
