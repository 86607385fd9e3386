pub mod Holding
pub mod Links
pub mod Cuts
pub mod Asking
pub mod Pieces
pub mod Services
pub mod Lanes
