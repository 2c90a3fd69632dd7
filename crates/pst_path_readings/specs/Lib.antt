pub mod Set
pub mod Wrapped
pub mod Behind
