pub mod Attempts
pub mod Datagrams
pub mod Links
pub mod Nets
pub mod Packets
pub mod Stops
