pub mod Answers
pub mod Counters
pub mod CpuPort
pub mod Figureless
pub mod RoleConfigs
pub mod Settings
pub mod Sound
pub mod Through
