pub mod Shown
pub mod Kept
pub mod Listed
pub mod Numbered
pub mod Valued
