pub mod Shifts
pub mod Lowest
pub mod Agrees
pub mod Agreement
pub mod FittingLemmas
pub mod Copies
