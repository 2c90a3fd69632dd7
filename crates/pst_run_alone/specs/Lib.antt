pub mod Lanes
pub mod Shown
