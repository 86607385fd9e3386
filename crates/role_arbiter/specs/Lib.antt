pub mod Election
pub mod State
pub mod Arbitration
pub mod Placing
pub mod Telling
pub mod Laws
pub mod Undo
