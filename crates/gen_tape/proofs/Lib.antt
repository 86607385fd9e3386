pub mod Counting
pub mod Grammar
pub mod Readings
