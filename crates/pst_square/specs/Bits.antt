-- Squares by their words, of which so many stand in a row.
use Rattle.std.specs.Prelude.{◌≡◌, ◌≢◌, ◌↔◌, ◌⊎◌, ◌+◌, ◌*◌, ◌/◌, ◌%◌, ◌<◌, ℕ, List, length, get_or, IsBitSet, bit_or}
use Rattle.pst_scen.specs.declared.rows.Rows.{Rows}
use Rattle.pst_scen.specs.Rows.{IsSquare, Has}
use Rattle.pst_square.specs.Chains.{IsChain}

-- the pair's bit is set
abbrev pub HasBit : ℕ → List ℕ → ℕ → ℕ → Type 0
HasBit row words a b = IsBitSet (get_or words (a * row + b / 64) 0) (b % 64)

-- the row of a has the bits of m's row too
pub record IsJoined (row : ℕ) (old new : List ℕ) (a m : ℕ) : Type 0 where
  pub many : length new ≡ length old
  pub joined : (w : ℕ) → w < row → get_or new (a * row + w) 0 ≡ bit_or (get_or old (a * row + w) 0) (get_or old (m * row + w) 0)
  pub others : (c w : ℕ) → w < row → c ≢ a → get_or new (c * row + w) 0 ≡ get_or old (c * row + w) 0

-- the pairs of a that lead through m are there too
pub record LeadsThrough (row : ℕ) (old new : List ℕ) (a m : ℕ) : Type 0 where
  pub many : length new ≡ length old
  pub keeps : (c b : ℕ) → b / 64 < row → HasBit row old c b → HasBit row new c b
  pub adds : (b : ℕ) → b / 64 < row → HasBit row old a m → HasBit row old m b → HasBit row new a b
  pub only : (c b : ℕ) → b / 64 < row → HasBit row new c b → HasBit row old c b ⊎ ((c ≡ a) × HasBit row old a m × HasBit row old m b)

-- the pairs of the numbers below a limit that lead through m are there too
pub record GoThrough (row : ℕ) (old new : List ℕ) (limit m : ℕ) : Type 0 where
  pub many : length new ≡ length old
  pub keeps : (c b : ℕ) → b / 64 < row → HasBit row old c b → HasBit row new c b
  pub adds : (c b : ℕ) → c < limit → b / 64 < row → HasBit row old c m → HasBit row old m b → HasBit row new c b
  pub only : (c b : ℕ) → b / 64 < row → HasBit row new c b → HasBit row old c b ⊎ (HasBit row old c m × HasBit row old m b)

-- the pairs that a chain of the old ones joins
pub record IsClosure (size row : ℕ) (old new : List ℕ) : Type 0 where
  pub many : length new ≡ length old
  pub chains : (a b : ℕ) → a < size → b < size → HasBit row new a b ↔ IsChain (HasBit row old) size a b

-- the square of the pairs that a chain of the given ones joins
abbrev pub IsClosureOf : Rows → Rows → Type 0
IsClosureOf direct rows = (rows.size ≡ direct.size) × IsSquare rows × ((a b : ℕ) → a < direct.size → b < direct.size → Has rows a b ↔ IsChain (Has direct) direct.size a b)
