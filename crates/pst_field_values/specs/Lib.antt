pub mod Fields
pub mod Quantities
pub mod Kept
pub mod Laws
pub mod Subjects
pub mod Writing
