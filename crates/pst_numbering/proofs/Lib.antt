pub mod Grown
pub mod Found
pub mod Indexed
pub mod Tabling
