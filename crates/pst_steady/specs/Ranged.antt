-- Activities and bodies in an order in which those of an action stand before those of what is derived from it.
use Rattle.std.specs.Prelude.{◌≡◌, ◌<◌, ◌≤◌, ℕ, List, Option, Some, None, slice_get}
use Rattle.pst_base.specs.declared.position.Place.{Place}
use Rattle.pst_ast.specs.declared.scope_declaration.Declaration.{Declaration}
use Rattle.pst_places.specs.Numbers.{number_in}
use Rattle.pst_steady.specs.declared.ranges.Range.{Range}
use Rattle.pst_steady.specs.declared.reach.Seed.{Seed}
use Rattle.pst_steady.specs.declared.reach.Seed.TheVariants as seed

-- the own activity or body of a declaration has the first of its numbers
abbrev pub IsPlaced : List (Option ℕ) → Range → Seed → Type 0
IsPlaced slots range (seed.Own action) = (range.first < range.end) × (slice_get slots range.first ≡ Some (Some action))
IsPlaced slots range seed.Stop = (range.first < range.end) × (slice_get slots range.first ≡ Some None)
IsPlaced slots range seed.Inherit = Unit {0}

-- the numbers of a declaration are among those of its base
abbrev pub IsBetween : List Range → Range → Option ℕ → Type 0
IsBetween ranges range None = Unit {0}
IsBetween ranges range (Some base) = (around : Range) × (slice_get ranges base ≡ Some around) × (around.first ≤ range.first) × (range.end ≤ around.end)

-- the numbers of a declaration are right, and it has its place alone
pub record IsRanged (places : List Place) (d : Declaration) (s : Seed) (base : Option ℕ) (ranges : List Range) (slots : List (Option ℕ)) (at : ℕ) : Type 0 where
  pub range : Range
  pub there : slice_get ranges at ≡ Some range
  pub alone : number_in places d.name.place ≡ Some at
  pub placed : IsPlaced slots range s
  pub between : IsBetween ranges range base

-- those of the first n declarations are
abbrev pub AreRanged : List Place → List Declaration → List Seed → List (Option ℕ) → List Range → List (Option ℕ) → ℕ → Type 0
AreRanged places ds seeds bases ranges slots n =
    (i : ℕ) (d : Declaration) → i < n → slice_get ds i ≡ Some d → (s : Seed) × (base : Option ℕ) × (slice_get seeds i ≡ Some s) × (slice_get bases i ≡ Some base) × IsRanged places d s base ranges slots i
