mod Joined
mod Rows
pub mod Within
mod Counted
pub mod Alone
