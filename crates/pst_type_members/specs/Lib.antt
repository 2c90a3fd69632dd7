pub mod Keyed
pub mod Among
pub mod KeptHandles
pub mod Kept
pub mod Listed
