pub mod Walks
pub mod Choices
pub mod Made
pub mod Fields
