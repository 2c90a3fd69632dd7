-- Sets of numbers as the bits of words.
use Rattle.std.specs.Prelude.{◌≡◌, ◌≢◌, ◌/◌, ◌%◌, ℕ, List, get_or, IsBitSet}

-- the number is in the set
abbrev pub IsMarked : List ℕ → ℕ → Type 0
IsMarked marks d = IsBitSet (get_or marks (d / 64) 0) (d % 64)

-- the pair is of that first number and another one, which is in the set
pub record IsWithMarked (marks : List ℕ) (a c d : ℕ) : Type 0 where
  pub first : c ≡ a
  pub different : d ≢ a
  pub marked : IsMarked marks d

-- the same in one word
pub record IsWithMarkedAt (marks : List ℕ) (a w c d : ℕ) : Type 0 where
  pub pair : IsWithMarked marks a c d
  pub word : d / 64 ≡ w
