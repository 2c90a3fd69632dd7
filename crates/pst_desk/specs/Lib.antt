pub mod Desks
pub mod Names
pub mod Turning
pub mod Ended
