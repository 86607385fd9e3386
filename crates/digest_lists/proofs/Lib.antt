pub mod Places
pub mod SameData
pub mod EachOnce
pub mod PassedOver
pub mod Soundness
pub mod Counting
pub mod Few
