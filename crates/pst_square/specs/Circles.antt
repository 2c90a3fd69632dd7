-- Numbers that chains lead back to.
use Rattle.std.specs.Prelude.{◌≤◌, ◌<◌, ℕ, List, get_or}
use Rattle.pst_scen.specs.declared.rows.Rows.{Rows}
use Rattle.pst_scen.specs.Rows.{Has}
use Rattle.pst_scen.specs.Refusals.{IsLeast}
use Rattle.pst_square.specs.Chains.{IsChain}
use Rattle.pst_square.specs.Bits.{HasBit, IsClosureOf}
use Rattle.pst_square.specs.declared.closure.Closing.{Closing}
use Rattle.pst_square.specs.declared.closure.Closing.TheVariants.{Closed, Circle}

-- a chain leads from the number back to it
pub record IsOnCircle (direct : Rows) (a : ℕ) : Type 0 where
  pub below : a < direct.size
  pub chain : IsChain (Has direct) direct.size a a

-- it is the closure, or the least number on a circle
abbrev pub IsClosingOf : Rows → Closing → Type 0
IsClosingOf direct (Closed rows) = IsClosureOf direct rows
IsClosingOf direct (Circle least) = IsLeast (IsOnCircle direct) least

-- The pairs of the number lead to no higher rank, and where it is below the least one to a lower one.
pub record LeadsLower (rows : Rows) (ranks : List ℕ) (least a : ℕ) : Type 0 where
  pub no_higher : (b : ℕ) → b < rows.size → Has rows a b → get_or ranks b 0 ≤ get_or ranks a 0
  pub lower : (b : ℕ) → a < least → b < rows.size → Has rows a b → get_or ranks b 0 < get_or ranks a 0

-- the same for each number
abbrev pub Descend : Rows → List ℕ → ℕ → Type 0
Descend rows ranks least = (a : ℕ) → a < rows.size → LeadsLower rows ranks least a

-- each pair is joined by a chain of the base
abbrev pub AreChains : ℕ → ℕ → List ℕ → List ℕ → Type 0
AreChains size row base words = (a b : ℕ) → a < size → b < size → HasBit row words a b → IsChain (HasBit row base) size a b
