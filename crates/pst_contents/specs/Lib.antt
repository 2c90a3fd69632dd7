pub mod Found
pub mod Marks
