pub mod IntegerSteps
pub mod RowChecks
pub mod BitSteps
pub mod Draining
pub mod Halves
pub mod Evictions
pub mod StaticChecks
pub mod TableSteps
pub mod BlockSteps
pub mod Digits
pub mod ReadBack
pub mod Codes
pub mod Texts
pub mod Parts
pub mod Wholes
pub mod Written
mod UpdateBack
