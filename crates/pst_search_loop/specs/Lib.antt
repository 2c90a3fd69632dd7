pub mod Conflicts
pub mod Kept
pub mod Stack
pub mod Search
pub mod Levels
