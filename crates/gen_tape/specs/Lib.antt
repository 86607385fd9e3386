pub mod Generated
pub mod Laws
pub mod Router
pub mod Summary
