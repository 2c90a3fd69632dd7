pub mod Reasons
pub mod Takes
pub mod Written
pub mod Outcomes
