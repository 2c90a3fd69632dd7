pub mod Levels
pub mod Closed
pub mod Statements
