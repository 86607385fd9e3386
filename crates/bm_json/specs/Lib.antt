pub mod LeftOut
pub mod Limits
pub mod Program
pub mod Sound
pub mod Laws
