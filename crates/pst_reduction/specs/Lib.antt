pub mod Reduced
pub mod Parts
