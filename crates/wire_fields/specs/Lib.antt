pub mod Fields
pub mod Spelling
pub mod Field
pub mod Reading
pub mod Laws
