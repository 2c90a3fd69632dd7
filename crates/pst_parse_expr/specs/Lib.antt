pub mod Constraints
pub mod ConstraintFamilies
