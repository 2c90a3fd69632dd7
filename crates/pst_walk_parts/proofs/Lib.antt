pub mod Folds
pub mod ExpressionRows
pub mod ConstraintRows
