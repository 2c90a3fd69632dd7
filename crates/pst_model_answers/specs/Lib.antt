pub mod Ready
pub mod Replies
pub mod PassedOn
