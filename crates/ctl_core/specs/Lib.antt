pub mod Core
pub mod Prepared
