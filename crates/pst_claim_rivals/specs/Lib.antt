pub mod Claims
pub mod Rivals
