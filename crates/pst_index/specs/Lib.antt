pub mod Keys
pub mod Found
pub mod Indexed
pub mod Fitting
