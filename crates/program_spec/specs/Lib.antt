pub mod Actions
pub mod Checksums
pub mod Deparsing
pub mod Laws
pub mod Numbers
pub mod Parsing
pub mod Stores
