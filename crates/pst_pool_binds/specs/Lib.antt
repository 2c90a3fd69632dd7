pub mod PoolBinds
pub mod FoundBinds
