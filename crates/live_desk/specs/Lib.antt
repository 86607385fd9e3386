pub mod Callers
pub mod Sums
pub mod Locked
pub mod Passing
pub mod Mailing
pub mod Opening
pub mod Laws
