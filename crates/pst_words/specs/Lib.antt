pub mod Numerals
pub mod Table
pub mod Lines
pub mod Read
