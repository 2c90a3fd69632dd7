pub mod Numbers
pub mod Bits
mod Squares
pub mod Adding
pub mod Lists
mod Spreads
mod Joins
mod Closes
mod Nexts
mod Walking
mod Circling
