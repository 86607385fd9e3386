pub mod Numbers
pub mod Objects
pub mod Rules
pub mod Flaw
pub mod Pairs
