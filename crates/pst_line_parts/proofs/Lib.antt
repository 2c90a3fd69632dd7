mod SourceNames
mod Texts
mod Given
pub mod Rooted
mod Long
