pub mod Listed
pub mod KeptObjects
pub mod KeptPools
