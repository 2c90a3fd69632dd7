pub mod Gathered
pub mod Kept
pub mod KeptRow
pub mod KeptTable
