pub mod Kinds
pub mod Parser
pub mod Gives
pub mod Ended
pub mod Lists
pub mod Reads
pub mod Peeking
pub mod Options
