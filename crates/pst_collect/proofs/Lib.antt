pub mod ConstraintRows
pub mod ActivityRows
pub mod BodyRows
