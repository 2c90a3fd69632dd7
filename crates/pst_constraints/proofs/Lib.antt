pub mod Premised
pub mod Turning
pub mod Rowed
pub mod Pairing
