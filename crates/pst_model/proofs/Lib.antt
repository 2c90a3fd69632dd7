pub mod Pairs
pub mod Under
mod TrialLemmas
pub mod Crossing
