pub mod Rows
pub mod LocalLists
pub mod Declared
