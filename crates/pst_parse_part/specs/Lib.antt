pub mod Choices
pub mod Families
pub mod Names
pub mod Plain
pub mod Ranges
pub mod Times
pub mod TimesFamilies
