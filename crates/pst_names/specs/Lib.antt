pub mod Judged
pub mod Labels
pub mod Resolved
