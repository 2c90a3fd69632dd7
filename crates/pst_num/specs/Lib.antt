pub mod Range
pub mod Arithmetic
pub mod Shifts
pub mod Bits
pub mod Laws
