pub mod Types
pub mod Members
pub mod Enums
pub mod Pools
pub mod Families
pub mod Laws
