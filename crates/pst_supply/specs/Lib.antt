pub mod Needs
pub mod Walks
pub mod Stops
pub mod Choices
pub mod Made
