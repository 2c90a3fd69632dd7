mod Digits
pub mod Keys
mod Roots
mod Dropped
pub mod Given
mod Right
mod Fronts
mod Extended
mod Few
mod Wrong
mod Step
mod Whole
