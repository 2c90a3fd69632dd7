pub mod Moving
pub mod Counts
