pub mod Solver
pub mod Options
pub mod Searched
pub mod Search
pub mod Kept
