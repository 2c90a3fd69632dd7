pub mod Readings
pub mod Judging
pub mod Made
pub mod Searches
