pub mod Sources
pub mod Fields
pub mod Terms
pub mod Slots
pub mod Readings
pub mod Values
pub mod Laws
pub mod Tried
