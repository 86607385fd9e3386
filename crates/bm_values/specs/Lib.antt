pub mod Literals
pub mod Kinds
pub mod Trees
pub mod TreeCode
pub mod Nodes
pub mod TreesFall
pub mod Values
pub mod Expressions
