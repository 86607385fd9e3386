pub mod Standing
pub mod Keeping
pub mod Lasting
pub mod Places
