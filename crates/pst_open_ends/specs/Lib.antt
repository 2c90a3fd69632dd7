pub mod Spots
pub mod Options
pub mod Beyond
pub mod Turns
pub mod Changes
