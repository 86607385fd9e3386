pub mod DatagramLaws
pub mod TryLaws
