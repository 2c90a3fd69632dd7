pub mod Blanks
pub mod Fields
pub mod Placed
pub mod Filling
