mod TrailLemmas
pub mod NarrowLemmas
mod PartLemmas
pub mod ListLemmas
mod OperandLemmas
mod MentionLemmas
pub mod NotedLemmas
pub mod SettleLemmas
mod LocalLemmas
mod LogicLemmas
mod DemandLemmas
mod ElementLemmas
mod SumLemmas
mod WeightLemmas
