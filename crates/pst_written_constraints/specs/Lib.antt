pub mod Terms
pub mod Alike
pub mod Written
pub mod Spans
pub mod Open
pub mod PassedOn
