pub mod Spans
pub mod Tree
pub mod Value
pub mod Left
pub mod Laws
