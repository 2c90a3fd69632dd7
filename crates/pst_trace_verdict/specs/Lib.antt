pub mod Verdicts
pub mod Events
pub mod Laws
