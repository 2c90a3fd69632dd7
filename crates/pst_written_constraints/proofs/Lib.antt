pub mod Mirrors
pub mod Sites
pub mod Hulls
pub mod Opens
pub mod Whole
mod Folds
