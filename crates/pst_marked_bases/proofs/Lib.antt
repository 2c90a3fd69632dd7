pub mod Leading
pub mod Among
pub mod Skipping
pub mod Nearest
