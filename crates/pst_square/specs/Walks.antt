-- A walk along the pairs of a square that finishes the rows of numbers one by one.
use Rattle.std.specs.Prelude.{◌≡◌, ◌⊎◌, ◌<◌, ◌+◌, ◌*◌, ◌/◌, ℕ, List, length, get_or}
use Rattle.std.specs.List.{sum_by}
use Rattle.pst_square.specs.declared.walk.Stage.{Stage}
use Rattle.pst_square.specs.declared.walk.Stage.TheVariants.{New, Open, Finished}
use Rattle.pst_square.specs.declared.walk.Turn.{Turn}
use Rattle.pst_square.specs.declared.walk.Turn.TheVariants as turn
use Rattle.pst_square.specs.Bits.{HasBit}
use Rattle.pst_square.specs.Chains.{IsChain}

-- the row of a has the bits of c's row too, and c itself
pub record IsTakenOver (row : ℕ) (old new : List ℕ) (a c : ℕ) : Type 0 where
  pub many : length new ≡ length old
  pub keeps : (x b : ℕ) → b / 64 < row → HasBit row old x b → HasBit row new x b
  pub adds : (b : ℕ) → b / 64 < row → HasBit row old c b → HasBit row new a b
  pub own : HasBit row new a c
  pub only : (x b : ℕ) → b / 64 < row → HasBit row new x b → HasBit row old x b ⊎ ((x ≡ a) × ((b ≡ c) ⊎ HasBit row old c b))

-- both rows have the same words
abbrev pub AreSameRows : ℕ → List ℕ → ℕ → ℕ → Type 0
AreSameRows row words a c = (w : ℕ) → w < row → get_or words (a * row + w) 0 ≡ get_or words (c * row + w) 0

-- the row of a has each pair of the base
abbrev pub IsCovered : ℕ → ℕ → List ℕ → List ℕ → ℕ → Type 0
IsCovered size row base words a = (c : ℕ) → c < size → HasBit row base a c → HasBit row words a c

abbrev pub IsFinished : List Stage → ℕ → Type 0
IsFinished stages a = get_or stages a New ≡ Finished

abbrev pub AreFinished : List Stage → Type 0
AreFinished stages = (a : ℕ) → a < length stages → IsFinished stages a

-- Each pair is joined by a chain of the base, each row has with a number what chains lead to from there, and the rows of
-- finished numbers have each pair of the base.
pub record IsWalked (size row : ℕ) (base words : List ℕ) (stages : List Stage) : Type 0 where
  pub many : length words ≡ length base
  pub staged : length stages ≡ size
  pub sound : (a b : ℕ) → a < size → b < size → HasBit row words a b → IsChain (HasBit row base) size a b
  pub closed : (a c b : ℕ) → a < size → c < size → b < size → HasBit row words a c → IsChain (HasBit row base) size c b → HasBit row words a b
  pub covers : (a : ℕ) → a < size → IsFinished stages a → IsCovered size row base words a

-- the next number that a has in the base and not in its row
pub record IsOpenPair (row : ℕ) (base words : List ℕ) (a c : ℕ) : Type 0 where
  pub in_base : HasBit row base a c
  pub not_in_row : HasBit row words a c → ⊥

-- what a turn at a number says
abbrev pub IsTurn : ℕ → ℕ → List ℕ → List ℕ → List Stage → ℕ → Turn → Type 0
IsTurn size row base words stages a turn.Done = IsCovered size row base words a
IsTurn size row base words stages a (turn.Down to) = (to < size) × (get_or stages to Finished ≡ New)
IsTurn size row base words stages a turn.Circle = Unit {0}

-- the number is new, and the walk goes down to it; or it goes round in a circle
abbrev pub MatchTurn : List Stage → ℕ → Turn → Type 0
MatchTurn stages to turn.Done = ⊥
MatchTurn stages to (turn.Down down) = (down ≡ to) × (get_or stages down Finished ≡ New)
MatchTurn stages to turn.Circle = Unit {0}

abbrev pub AllBelow : ℕ → List ℕ → Type 0
AllBelow size path = (i : ℕ) → i < length path → get_or path i 0 < size

-- how much is left of a walk: the numbers of the path, and two for each number that is new
abbrev pub weight : Stage → ℕ
weight New = 2
weight Open = 0
weight Finished = 0

abbrev pub left : List Stage → List ℕ → ℕ
left stages path = sum_by weight stages + length path
