pub mod Named
pub mod Far
pub mod Since
pub mod Settled
pub mod Newly
