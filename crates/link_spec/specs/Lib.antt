pub mod Fields
pub mod Flaw
pub mod Configured
pub mod Expressions
pub mod Objects
pub mod Tables
pub mod Laws
pub mod Linked
