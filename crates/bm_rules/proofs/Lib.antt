pub mod Inside
pub mod Laid
pub mod Neighbours
pub mod Nothing
pub mod Peeled
pub mod Sameness
