pub mod EmptyNumber
