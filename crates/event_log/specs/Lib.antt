pub mod Legal
pub mod Lists
pub mod Ruling
pub mod Laws
