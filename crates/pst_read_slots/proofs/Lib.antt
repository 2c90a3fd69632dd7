pub mod Same
mod Through
pub mod PassedOn
