pub mod Rows
pub mod Runs
mod Working
mod Crossing
