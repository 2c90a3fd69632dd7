pub mod Ways
pub mod Kids
pub mod Behind
pub mod Untouched
