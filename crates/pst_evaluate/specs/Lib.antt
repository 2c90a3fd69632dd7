pub mod Evaluated
pub mod Known
pub mod Listed
pub mod Settled
pub mod Kept
pub mod Laws
