mod Generators
mod WeightLemmas
