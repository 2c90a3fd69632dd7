pub mod Placed
pub mod Joins
pub mod Stands
pub mod Added
pub mod Fields
