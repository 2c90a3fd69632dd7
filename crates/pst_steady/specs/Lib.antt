pub mod Numbered
pub mod Reached
pub mod Seeded
pub mod Lined
pub mod Ranged
pub mod Run
pub mod Derived
