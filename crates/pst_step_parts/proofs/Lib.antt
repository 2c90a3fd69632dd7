pub mod Branching
pub mod Joining
