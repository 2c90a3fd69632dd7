pub mod Splitting
pub mod Constraining
