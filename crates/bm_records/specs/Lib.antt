pub mod Operations
pub mod Primitives
pub mod Parsers
pub mod Objects
pub mod Members
pub mod Pipelines
pub mod Firsts
