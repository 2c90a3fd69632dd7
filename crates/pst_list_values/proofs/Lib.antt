pub mod Values
pub mod Opens
pub mod Ties
pub mod OpenHere
pub mod Skips
pub mod Steps
pub mod FieldSkips
