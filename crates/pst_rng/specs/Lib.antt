pub mod Words
pub mod Weights
pub mod Reader
