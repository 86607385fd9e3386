pub mod CodeNumber
