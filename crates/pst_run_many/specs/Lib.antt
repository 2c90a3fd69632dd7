pub mod Many
pub mod Stops
pub mod Alone
pub mod Gathered
