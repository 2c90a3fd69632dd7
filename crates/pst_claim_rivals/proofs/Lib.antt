pub mod Lists
pub mod Listed
pub mod Once
pub mod Differ
