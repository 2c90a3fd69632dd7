pub mod Lines
pub mod Named
pub mod Header
pub mod Elements
pub mod Texts
