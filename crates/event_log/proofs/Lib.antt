pub mod Prefixes
pub mod Adding
pub mod Going
pub mod Comparing
