pub mod Walks
pub mod Made
pub mod News
pub mod Opened
