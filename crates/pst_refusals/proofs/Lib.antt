pub mod Steps
pub mod Walks
pub mod Told
pub mod Within
pub mod Counting
pub mod Rows
pub mod Without
pub mod Placed
