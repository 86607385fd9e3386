pub mod Figures
pub mod Account
pub mod Counting
pub mod Laws
