pub mod Objects
pub mod Actions
pub mod Components
pub mod Families
pub mod Inner
pub mod Laws
