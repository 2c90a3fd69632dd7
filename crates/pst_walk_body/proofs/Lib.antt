pub mod Folds
pub mod BodyRows
