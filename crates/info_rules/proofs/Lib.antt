pub mod Asked
pub mod Gathered
pub mod Joined
pub mod Sameness
pub mod Texts
