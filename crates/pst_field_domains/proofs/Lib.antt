pub mod Ranged
pub mod Parts
pub mod Rows
pub mod Enums
pub mod Cuts
pub mod Typed
pub mod Listed
