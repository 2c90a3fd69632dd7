pub mod PassedOn
