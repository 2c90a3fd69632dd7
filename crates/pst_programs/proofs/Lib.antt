mod Elements
pub mod Events
pub mod Places
pub mod Kept
pub mod Moves
mod Goes
mod Short
pub mod Holding
pub mod Ranks
pub mod Dealing
pub mod Written
pub mod Bridge
mod TriedRows
pub mod OnlyOne
mod GroupedRow
mod Counts
mod Open
