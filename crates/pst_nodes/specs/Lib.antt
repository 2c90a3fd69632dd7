pub mod Over
pub mod Tables
pub mod Tabled
pub mod Beside
