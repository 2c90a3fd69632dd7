pub mod Named
pub mod Few
pub mod PassedOn
