pub mod FieldsSpelled
pub mod Gathered
pub mod PackedIds
