pub mod Touched
pub mod Ways
