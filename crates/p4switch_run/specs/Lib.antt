pub mod Check
pub mod Command
pub mod Laws
pub mod Load
pub mod Replay
pub mod Run
pub mod Tell
pub mod Words
