pub mod Counting
pub mod Sums
pub mod Working
pub mod Laws
