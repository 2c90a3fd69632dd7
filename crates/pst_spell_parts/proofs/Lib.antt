pub mod ExpressionRows
pub mod ConstraintRows
pub mod BodyRows
