pub mod Joined
pub mod OpenBlanks
pub mod Laws
