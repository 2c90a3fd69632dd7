pub mod Points
pub mod Givens
pub mod Refusals
