pub mod Lists
pub mod Fitting
pub mod Names
pub mod Turns
pub mod Totals
pub mod Works
pub mod Running
