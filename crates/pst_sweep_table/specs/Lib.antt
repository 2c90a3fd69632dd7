pub mod Counts
pub mod Uses
pub mod Kept
pub mod Rows
pub mod Laws
