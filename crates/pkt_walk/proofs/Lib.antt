pub mod Conditionals
pub mod NumberBytes
mod Totals
