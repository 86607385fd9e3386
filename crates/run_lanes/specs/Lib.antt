pub mod Packets
pub mod Gathered
