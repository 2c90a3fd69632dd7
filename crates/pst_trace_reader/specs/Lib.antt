pub mod Traces
pub mod Going
pub mod Behind
pub mod Top
pub mod Laws
