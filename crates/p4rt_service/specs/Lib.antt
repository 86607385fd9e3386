pub mod Dialogues
pub mod Serving
pub mod Turns
pub mod Laws
