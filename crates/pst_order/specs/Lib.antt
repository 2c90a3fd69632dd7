pub mod Rule
pub mod Facts
pub mod Built
pub mod Laws
