pub mod MessageFields
pub mod Nested
pub mod Entities
pub mod Requests
pub mod Stream
pub mod Calls
pub mod P4Infos
pub mod RoleConfigs
