pub mod Openings
pub mod Ties
pub mod Collecting
pub mod Posts
pub mod Named
