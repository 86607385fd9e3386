pub mod Doings
pub mod Watches
pub mod Courses
pub mod Steps
pub mod Lists
