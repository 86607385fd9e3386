pub mod Given
pub mod Kinds
pub mod Lists
