pub mod Folds
pub mod ActivityRows
