pub mod Sites
pub mod Senses
pub mod Groups
pub mod Views
pub mod Laws
