pub mod Seen
pub mod Depth
pub mod Numbered
