pub mod Rowed
pub mod Listing
pub mod Standing
