pub mod Onward
pub mod Values
