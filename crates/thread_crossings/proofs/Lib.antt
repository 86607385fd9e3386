pub mod Programs
pub mod Images
pub mod Snapshots
pub mod Workers
pub mod Replies
pub mod Desks
