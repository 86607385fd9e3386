pub mod Play
pub mod Report
pub mod ReportText
pub mod Rows
pub mod Tape
pub mod TapeReading
pub mod Text
