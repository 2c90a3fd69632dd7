pub mod Fault
pub mod Laws
pub mod Names
pub mod Places
pub mod Table
