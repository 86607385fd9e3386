pub mod Answers
pub mod Undo
pub mod Groups
pub mod Laws
pub mod Order
pub mod Rising
