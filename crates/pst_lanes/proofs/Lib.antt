pub mod Elements
pub mod Events
pub mod Lists
pub mod Starting
pub mod Counting
pub mod Laned
