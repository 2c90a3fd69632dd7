pub mod Failing
pub mod Founds
pub mod Answers
pub mod Places
pub mod Counted
pub mod Inlines
pub mod Within
pub mod Made
