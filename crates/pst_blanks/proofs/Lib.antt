pub mod Alters
pub mod Each
pub mod Rows
pub mod Firsts
pub mod Listed
pub mod Cleared
pub mod Puts
pub mod Domains
