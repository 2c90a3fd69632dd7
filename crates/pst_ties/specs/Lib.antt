pub mod Tieds
pub mod Kept
