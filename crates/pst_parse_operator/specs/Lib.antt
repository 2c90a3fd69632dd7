pub mod Operators
pub mod Reading
pub mod Families
