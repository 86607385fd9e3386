pub mod Determined
pub mod Lanes
pub mod Records
pub mod Reports
