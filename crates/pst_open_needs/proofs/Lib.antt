pub mod Counted
pub mod Stays
pub mod Unserved
