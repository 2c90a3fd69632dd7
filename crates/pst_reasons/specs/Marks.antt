-- Marks of variables.
use Rattle.std.specs.Prelude.{◌≡◌, ℕ, suc, ◌≤◌, ◌⊎◌, List, [], ◌∷◌, length, Bool, true, false, Some, slice_get, Contains, All}
use Rattle.pst_narrow.specs.declared.trail.Former.{Former}
use Rattle.pst_reasons.specs.Firsts.{first_at}

abbrev pub IsMarked : List Bool → ℕ → Type 0
IsMarked marks v = slice_get marks v ≡ Some true

-- how many are marked
abbrev pub marked_in : List Bool → ℕ
marked_in [] = 0
marked_in (true ∷ more) = suc (marked_in more)
marked_in (false ∷ more) = marked_in more

-- a variable is marked, or it wasn't changed before a mark of the trail
abbrev pub IsHeld : List ℕ → ℕ → List Bool → ℕ → Type 0
IsHeld firsts mark marks v = IsMarked marks v ⊎ (mark ≤ first_at firsts v)

-- no variable that was changed is marked
abbrev pub NoneIsMarked : List Bool → List Former → Type 0
NoneIsMarked marks changes = All (λ f. IsMarked marks f.variable → ⊥) changes

-- marks stay
abbrev pub MarksStay : List Bool → List Bool → Type 0
MarksStay old new = (v : ℕ) → IsMarked old v → IsMarked new v

-- marks stay but for variables that weren't changed before a mark of the trail
abbrev pub AreHeld : List ℕ → ℕ → List Bool → List Bool → Type 0
AreHeld firsts mark old new = (v : ℕ) → IsMarked old v → IsHeld firsts mark new v

-- a variable is marked where it was changed before a mark of the trail, and the former ones are
pub record IsMarkedToo (variable : ℕ) (firsts : List ℕ) (mark : ℕ) (old new : List Bool) : Type 0 where
  pub long : length new ≡ length old
  pub kept : MarksStay old new
  pub held : IsHeld firsts mark new variable

-- those of some variables that were changed before a mark of the trail are marked, and the former ones
pub record AreMarked (variables firsts : List ℕ) (mark : ℕ) (old new : List Bool) : Type 0 where
  pub long : length new ≡ length old
  pub kept : MarksStay old new
  pub marked : (v : ℕ) → Contains variables v → IsHeld firsts mark new v

-- marks stay but for those
pub record AreUnmarked (firsts : List ℕ) (mark : ℕ) (old new : List Bool) : Type 0 where
  pub long : length new ≡ length old
  pub held : AreHeld firsts mark old new

-- marks stay but for one variable
pub record IsUnmarked (variable : ℕ) (old new : List Bool) : Type 0 where
  pub long : length new ≡ length old
  pub marks : (v : ℕ) → IsMarked old v → (v ≡ variable) ⊎ IsMarked new v
