pub mod Mail
pub mod Desks
