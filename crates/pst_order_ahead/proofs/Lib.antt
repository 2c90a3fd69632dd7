pub mod Chain
pub mod Comes
pub mod Refused
pub mod Laid
