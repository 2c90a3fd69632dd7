pub mod Found
pub mod Itemed
pub mod Numbering
