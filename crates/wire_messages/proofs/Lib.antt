pub mod Scanning
pub mod Walking
pub mod Packed
pub mod Asking
pub mod WrittenBytes
pub mod ReadBack
pub mod CanWrite
