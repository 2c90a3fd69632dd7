pub mod Lists
pub mod Numbering
mod Settling
mod Seeding
pub mod Lined
mod Apart
mod Marking
mod Inside
mod Running
