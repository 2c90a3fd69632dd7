mod Told
mod Shared
mod Runs
pub mod PassedOn
