pub mod Wrapping
pub mod Turning
pub mod Needing
pub mod Dotted
