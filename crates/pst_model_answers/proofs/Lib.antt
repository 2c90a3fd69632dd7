pub mod Legality
pub mod Runs
pub mod Owed
