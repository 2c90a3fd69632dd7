pub mod Listed
pub mod Own
pub mod Tallied
