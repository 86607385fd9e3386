pub mod Nexts
pub mod FirstOfName
pub mod KeptSteps
pub mod Together
