mod Closes
pub mod Gathering
mod Taking
