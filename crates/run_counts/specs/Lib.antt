pub mod Hits
pub mod Packets
pub mod Reading
pub mod Totals
