pub mod Counts
pub mod Turns
pub mod Listed
pub mod Puts
pub mod Fills
