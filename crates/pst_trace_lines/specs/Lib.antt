pub mod Forms
pub mod Last
pub mod Blocks
pub mod Headers
