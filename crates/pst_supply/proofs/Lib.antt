pub mod Rows
pub mod Listed
pub mod Stands
pub mod Sources
pub mod Known
