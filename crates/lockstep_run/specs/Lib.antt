pub mod Playing
pub mod Session
pub mod Speaking
pub mod Tallies
pub mod Telling
