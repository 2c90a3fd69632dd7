pub mod Chains
pub mod Rowed
