pub mod Lists
pub mod Rising
pub mod Rows
pub mod Links
pub mod Takes
