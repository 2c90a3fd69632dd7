pub mod Walked
pub mod Tied
pub mod PassedOn
pub mod FieldValues
