pub mod In
pub mod Joining
pub mod Cutting
pub mod Sizes
