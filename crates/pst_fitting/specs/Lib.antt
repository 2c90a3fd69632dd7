pub mod Places
pub mod Passed
