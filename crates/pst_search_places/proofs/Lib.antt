pub mod Lists
mod Facts
pub mod Fronts
pub mod Few
mod Among
