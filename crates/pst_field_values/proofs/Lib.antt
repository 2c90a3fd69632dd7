pub mod Later
pub mod Tables
pub mod Wider
pub mod Valued
