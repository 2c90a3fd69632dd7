-- Places of the spans that variables were given.
use Rattle.std.specs.Prelude.{ℕ, ◌<◌, ◌⊎◌, List, Contains}

abbrev pub AreBelow : List ℕ → ℕ → Type 0
AreBelow places n = (k : ℕ) → Contains places k → k < n

-- those of some places that are below a number were added
pub record AreAdded (places : List ℕ) (below : ℕ) (old new : List ℕ) : Type 0 where
  pub kept : (k : ℕ) → Contains old k → Contains new k
  pub added : (k : ℕ) → Contains places k → k < below → Contains new k
  pub only : (k : ℕ) → Contains new k → Contains old k ⊎ (k < below)
