pub mod ReadSoFar
pub mod Steps
