mod PoolsTried
pub mod Serves
mod NearestRows
mod Needing
mod Pooling
mod Judges
mod Made
