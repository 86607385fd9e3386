pub mod State
pub mod Totals
