-- Where a seed begins among options that have weights.
use Rattle.std.specs.Prelude.{ℕ, suc, ◌+◌, ◌-◌, ◌%◌, ◌<◌, ◌≤◌, List, [], ◌∷◌, length, take, sum, nat_lt, if◌then◌else◌}
use Rattle.pst_rng.specs.Words.{word_of}

-- a weight is from 1 to 1,000
abbrev pub IsWeight : ℕ → Type 0
IsWeight weight = (1 ≤ weight) × (weight ≤ 1000)

-- the least index whose summed weights, its own included, exceed the number
abbrev pub index_above : ℕ → List ℕ → ℕ
index_above number [] = 0
index_above number (weight ∷ weights) =
    if nat_lt number weight then 0 else suc (index_above (number - weight) weights)

-- the weights up to and including the index exceed the number, and those up to an earlier index don't
pub record IsLeastAbove (number : ℕ) (weights : List ℕ) (index : ℕ) : Type 0 where
  pub within : index < length weights
  pub exceeds : number < sum (take (index + 1) weights)
  pub least : (earlier : ℕ) → earlier < index → sum (take (earlier + 1) weights) ≤ number

-- the word at the place, modulo the total of the weights
abbrev pub weighted_word_of : ℕ → ℕ → List ℕ → ℕ
weighted_word_of seed place weights = word_of seed place % sum weights

-- where the seed begins among options with these weights
abbrev pub weighted_start_of : ℕ → ℕ → List ℕ → ℕ
weighted_start_of seed place weights = index_above (weighted_word_of seed place weights) weights
