pub mod Refusing
pub mod Counting
pub mod Rises
pub mod Tables
pub mod MulticastCauses
