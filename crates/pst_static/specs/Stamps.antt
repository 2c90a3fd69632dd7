-- A value that is written at some places of a table.
use Rattle.std.specs.Prelude.{◌≡◌, ◌≢◌, ◌⊎◌, ◌<◌, ℕ, List, length, get_or, Some, slice_get}
use Rattle.pst_scen.specs.declared.rows.Rows.{Rows}
use Rattle.pst_scen.specs.Rows.{Has}
use Rattle.pst_scen.specs.Plan.{Entries}

-- the value stands where m has the property, and the same as before elsewhere
pub record IsStamped (value : ℕ) (P : ℕ → Type 0) (m old new : ℕ) : Type 0 where
  pub stamped : P m → new ≡ value
  pub same : (P m → ⊥) → new ≡ old

-- the value stands at each action that is paired with a
pub record AreStamped (rows : Rows) (a value : ℕ) (old new : List ℕ) : Type 0 where
  pub many : length new ≡ length old
  pub stamped : (m : ℕ) → m < length old → Has rows a m → get_or new m 0 ≡ value
  pub same : (m : ℕ) → m < length old → (Has rows a m → ⊥) → get_or new m 0 ≡ get_or old m 0

-- the value stands at each action with which a is paired in one of the two squares
pub record AreStampedByPlan (p : Entries) (a value : ℕ) (old new : List ℕ) : Type 0 where
  pub many : length new ≡ length old
  pub stamped : (m : ℕ) → m < length old → Has p.must a m ⊎ Has p.conflict a m → get_or new m 0 ≡ value
  pub same : (m : ℕ) → m < length old → (Has p.must a m ⊎ Has p.conflict a m → ⊥) → get_or new m 0 ≡ get_or old m 0

-- one entry of a list changed as the relation says, and the others are as before
pub record IsChangedAt (X : Type 0) (R : X → X → Type 0) (place : ℕ) (old new : List X) : Type 0 where
  pub many : length new ≡ length old
  pub here : (x y : X) → slice_get old place ≡ Some x → slice_get new place ≡ Some y → R x y
  pub others : (m : ℕ) → m ≢ place → slice_get new m ≡ slice_get old m
