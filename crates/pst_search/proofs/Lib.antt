pub mod Looks
pub mod Short
pub mod Grounds
pub mod Plans
pub mod Ends
