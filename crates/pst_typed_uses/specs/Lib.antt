pub mod Judged
pub mod Found
pub mod Breaches
pub mod InOrder
