pub mod Choices
pub mod NestedBack
pub mod StatusBack
pub mod EntityBack
pub mod StreamBack
pub mod ResponseBack
pub mod InfoBack
pub mod WorkedRows
