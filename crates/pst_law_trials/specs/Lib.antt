pub mod Readings
pub mod Models
pub mod Read
pub mod Premises
pub mod Places
pub mod Steps
pub mod Ahead
