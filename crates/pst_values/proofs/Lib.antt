mod SolverLemmas
mod OptionLemmas
mod SearchLemmas
mod KeptLemmas
