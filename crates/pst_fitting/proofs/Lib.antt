mod PlaceLemmas
mod FittingLemmas
