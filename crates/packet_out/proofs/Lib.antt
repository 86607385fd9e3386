mod Answered
mod Bytes
mod Values
mod Widths
