-- The least of the breaches of some rules.
use Rattle.std.specs.Prelude.{◌≡◌, ℕ, ◌≤◌, ◌⊎◌}
use Rattle.pst_base.specs.declared.position.Place.{Place}
use Rattle.pst_base.specs.Places.{IsBefore}

-- at an earlier place, or at the same one by a lesser rule, or the same
abbrev pub IsNoLater : Place → ℕ → Place → ℕ → Type 0
IsNoLater p r q s = IsBefore p q ⊎ ((p ≡ q) × (r ≤ s))

-- a breach before which there is none
pub record IsLeast (Breach : Place → ℕ → Type 0) (place : Place) (rule : ℕ) : Type 0 where
  pub is : Breach place rule
  pub least : (p : Place) (r : ℕ) → Breach p r → IsNoLater place rule p r

abbrev pub IsNone : (Place → ℕ → Type 0) → Type 0
IsNone Breach = (p : Place) (r : ℕ) → Breach p r → ⊥
