-- Rows of words in the making, of which so many stand in a row.
use Rattle.std.specs.Prelude.{◌≡◌, ◌≢◌, ◌↔◌, ◌⊎◌, ◌+◌, ◌*◌, ◌/◌, ◌<◌, ◌≤◌, ℕ, List, length, get_or}
use Rattle.pst_square.specs.Bits.{HasBit}

-- the words of all rows but that of a are the same
abbrev pub AreOthersSame : ℕ → List ℕ → List ℕ → ℕ → Type 0
AreOthersSame row old new a = (x w : ℕ) → w < row → x ≢ a → get_or new (x * row + w) 0 ≡ get_or old (x * row + w) 0

-- the row of a has lost the bits that the row of c has in the whole square
pub record IsTaken (row : ℕ) (whole old new : List ℕ) (a c : ℕ) : Type 0 where
  pub many : length new ≡ length old
  pub bits : (b : ℕ) → b / 64 < row → HasBit row new a b ↔ HasBit row old a b × (HasBit row whole c b → ⊥)
  pub others : AreOthersSame row old new a

-- a leads to b through a number below the size
abbrev pub IsBridgedBit : ℕ → List ℕ → ℕ → ℕ → ℕ → Type 0
IsBridgedBit row whole size a b = (c : ℕ) × (c < size) × HasBit row whole a c × HasBit row whole c b

-- the row of a has bits of the whole square's, and each other one of these leads through a number
pub record IsThin (row : ℕ) (whole : List ℕ) (size : ℕ) (words : List ℕ) (a : ℕ) : Type 0 where
  pub within : (b : ℕ) → b / 64 < row → HasBit row words a b → HasBit row whole a b
  pub bridged : (b : ℕ) → b / 64 < row → HasBit row whole a b → HasBit row words a b ⊎ IsBridgedBit row whole size a b

-- and nothing else has changed
pub record IsThinned (row : ℕ) (whole : List ℕ) (size : ℕ) (old new : List ℕ) (a : ℕ) : Type 0 where
  pub many : length new ≡ length old
  pub thin : IsThin row whole size new a
  pub others : AreOthersSame row old new a

-- rows below a limit are thin, and the others those of the whole square
pub record AreThinBelow (row : ℕ) (whole : List ℕ) (size : ℕ) (words : List ℕ) (limit : ℕ) : Type 0 where
  pub many : length words ≡ length whole
  pub thin : (a : ℕ) → a < limit → IsThin row whole size words a
  pub rest : (a w : ℕ) → limit ≤ a → w < row → get_or words (a * row + w) 0 ≡ get_or whole (a * row + w) 0
