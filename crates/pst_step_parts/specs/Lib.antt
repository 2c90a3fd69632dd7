pub mod Joined
pub mod PassedOn
