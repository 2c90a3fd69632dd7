pub mod Implied
pub mod Turned
pub mod Paired
pub mod PassedOn
