pub mod Opening
pub mod Ends
pub mod Running
pub mod Laws
