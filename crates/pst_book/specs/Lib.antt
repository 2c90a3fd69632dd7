pub mod Books
pub mod Kept
pub mod Tables
pub mod Tied
pub mod Parts
pub mod Ready
pub mod Waiting
