mod Lists
mod Owned
mod Parts
mod Stood
mod Compounds
mod Statements
mod Handles
pub mod Sounds
mod Whole
mod Placed
mod Both
pub mod Children
pub mod Found
pub mod Kept
pub mod Listed
mod StatementsWhole
