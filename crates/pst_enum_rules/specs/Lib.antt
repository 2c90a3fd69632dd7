pub mod Breaches
pub mod Enums
