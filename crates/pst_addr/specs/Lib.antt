pub mod Places
pub mod Ranges
pub mod Asks
pub mod Laws
pub mod Columns
