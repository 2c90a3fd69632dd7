pub mod Alters
pub mod Finds
pub mod Supplies
pub mod Rows
pub mod Lookups
pub mod News
pub mod Nexts
