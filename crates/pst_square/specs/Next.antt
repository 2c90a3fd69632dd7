-- The next pair of a row.
use Rattle.std.specs.Prelude.{◌<◌, ℕ, IsBitSet}
use Rattle.pst_scen.specs.declared.rows.Rows.{Rows}
use Rattle.pst_scen.specs.Rows.{Has}

-- the lowest bit of the word
pub record IsLowest (word bit : ℕ) : Type 0 where
  pub set : IsBitSet word bit
  pub none : (k : ℕ) → k < bit → IsBitSet word k → ⊥

-- the least number below the size that lies in the range and has the property
pub record IsNextOf (InRange P : ℕ → Type 0) (size b : ℕ) : Type 0 where
  pub behind : InRange b
  pub inside : b < size
  pub has : P b
  pub none : (c : ℕ) → InRange c → c < b → P c → ⊥

-- the least number behind the given one that the row of a has
abbrev pub IsNext : Rows → ℕ → ℕ → ℕ → Type 0
IsNext rows a after b = IsNextOf (λ c. after < c) (Has rows a) rows.size b
