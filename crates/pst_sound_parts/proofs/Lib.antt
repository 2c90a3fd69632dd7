pub mod Lists
pub mod Rows
mod SeenLemmas
pub mod Pairs
mod Apart
mod BodyRows
mod Locals
mod Searches
mod Under
