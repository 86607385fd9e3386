pub mod Entering
pub mod Given
