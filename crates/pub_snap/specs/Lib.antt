pub mod Listing
pub mod Beginnings
pub mod Snapshots
pub mod Room
