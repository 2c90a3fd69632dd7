-- Tables of counts, in which the actions of a word have a common entry.
use Rattle.std.specs.Prelude.{◌≡◌, ◌≢◌, ◌+◌, ◌/◌, ◌%◌, ◌^◌, ◌<◌, ℕ, zero, suc, List, [], ◌∷◌, ◌++◌, length, get_or}
use Rattle.pst_scen.specs.Rows.{row_words}

-- the count of an action: its own entry, and that of its word, which stands behind the entries of all actions
abbrev pub count_of : ℕ → List ℕ → ℕ → ℕ
count_of size tally m = (get_or tally m 0 + get_or tally (size + m / 64) 0) % 2 ^ 32

abbrev pub first_counts : ℕ → ℕ → List ℕ → List ℕ
first_counts zero size tally = []
first_counts (suc n) size tally = first_counts n size tally ++ count_of size tally n ∷ []

-- the counts of all actions
abbrev pub counts_in : ℕ → List ℕ → List ℕ
counts_in size tally = first_counts size size tally

-- the table has an entry for each action and for each word
abbrev pub IsTally : ℕ → List ℕ → Type 0
IsTally size tally = length tally ≡ size + row_words size

-- the number of m has gone on by a step where m has the property, and is the same elsewhere
pub record IsMoved (step : ℕ) (P : ℕ → Type 0) (m old new : ℕ) : Type 0 where
  pub moved : P m → new ≡ (old + step) % 2 ^ 32
  pub same : (P m → ⊥) → new ≡ old

-- the counts of the actions in the word of that place have gone on where their bits are set, and the others are as before
pub record IsWordMoved (size step : ℕ) (P : ℕ → Type 0) (old new : List ℕ) (place : ℕ) : Type 0 where
  pub inside : (m : ℕ) → m < size → m / 64 ≡ place → IsMoved step P m (count_of size old m) (count_of size new m)
  pub outside : (m : ℕ) → m < size → m / 64 ≢ place → count_of size new m ≡ count_of size old m
