pub mod Shares
pub mod Work
pub mod Running
pub mod Laws
