-- Squares of bits in the making.
use Rattle.std.specs.Prelude.{◌≡◌, ◌≢◌, ◌↔◌, ◌⊎◌, ◌≤◌, ◌<◌, ◌+◌, ◌/◌, ◌%◌, ℕ, IsBitSet}
use Rattle.pst_scen.specs.declared.rows.Rows.{Rows}
use Rattle.pst_scen.specs.Rows.{Has}

-- a square of that size that has no pair
pub record IsBlank (rows : Rows) (size : ℕ) : Type 0 where
  pub sized : rows.size ≡ size
  pub none : (a b : ℕ) → Has rows a b → ⊥

-- the second square has the pairs of the first and those of the relation, and no other
pub record Adds (old new : Rows) (P : ℕ → ℕ → Type 0) : Type 0 where
  pub sized : new.size ≡ old.size
  pub has : (a b : ℕ) → a < old.size → b < old.size → Has new a b ↔ Has old a b ⊎ P a b

-- the pair is that one
pub record IsPair (a b c d : ℕ) : Type 0 where
  pub first : c ≡ a
  pub second : d ≡ b

-- the pair stands in that word of the row, at a bit that the mask has
pub record IsMasked (a w mask c d : ℕ) : Type 0 where
  pub first : c ≡ a
  pub word : d / 64 ≡ w
  pub bit : IsBitSet mask (d % 64)

-- the pair is of that row, and its second number lies in the range
pub record IsInRange (a from to c d : ℕ) : Type 0 where
  pub first : c ≡ a
  pub least : from ≤ d
  pub below : d < to

-- the pair is that one, and the relation has it
pub record IsOnly (P : ℕ → ℕ → Type 0) (a b c d : ℕ) : Type 0 where
  pub pair : IsPair a b c d
  pub related : P c d

-- the pair is of that row, and the relation has it
pub record IsInRow (P : ℕ → ℕ → Type 0) (a c d : ℕ) : Type 0 where
  pub first : c ≡ a
  pub related : P c d

-- the second number is below that one, and the relation has the pair
pub record IsBelow (P : ℕ → ℕ → Type 0) (to c d : ℕ) : Type 0 where
  pub below : d < to
  pub related : P c d

-- the first number is below that one, and the relation has the pair
pub record IsAbove (P : ℕ → ℕ → Type 0) (to c d : ℕ) : Type 0 where
  pub below : c < to
  pub related : P c d

-- the number that stands k after the first one lies in the range
pub record IsWithin (first from to k : ℕ) : Type 0 where
  pub least : from ≤ first + k
  pub below : first + k < to

-- the pair is of that row and range, in one of those words
pub record IsInPart (a from to first last c d : ℕ) : Type 0 where
  pub in_range : IsInRange a from to c d
  pub low : first ≤ d / 64
  pub high : d / 64 < last

-- the pair is of that row, in one of those words
pub record IsFilled (a first last c d : ℕ) : Type 0 where
  pub row : c ≡ a
  pub low : first ≤ d / 64
  pub high : d / 64 < last

-- a relation of the family, of an index below that number, has the pair
pub record IsOneOf (F : ℕ → ℕ → ℕ → Type 0) (to c d : ℕ) : Type 0 where
  pub index : ℕ
  pub below : index < to
  pub has : F index c d
