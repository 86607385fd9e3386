pub mod Alone
pub mod ReadBack
