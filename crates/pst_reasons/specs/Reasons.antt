-- On which spans that were given it rests that no solution is left.
use Rattle.std.specs.Prelude.{◌≡◌, ℕ, ℤ, ◌<◌, ◌⊎◌, List, length, Bool, Option, Some, slice_get, Contains}
use Rattle.pst_expr.specs.declared.ranges.Span.{Span}
use Rattle.pst_expr.specs.Tree.{Expression}
use Rattle.pst_expr.specs.Value.{variable_value}
use Rattle.pst_domain.specs.Bounds.{Holds}
use Rattle.pst_narrow.specs.declared.trail.Former.{Former}
use Rattle.pst_narrow.specs.Solutions.{AreMet}
use Rattle.pst_narrow.specs.declared.watch.Watch.{Watch}
use Rattle.pst_narrow.specs.Watch.{Has}
use Rattle.pst_narrow.specs.Local.{LiesWithin}
use Rattle.pst_reasons.specs.declared.step.Cause.{Cause}
use Rattle.pst_reasons.specs.declared.step.Cause.TheVariants as cause
use Rattle.pst_reasons.specs.declared.step.Given.{Given}
use Rattle.pst_reasons.specs.Marks.{IsMarked, IsHeld, AreHeld, NoneIsMarked, IsUnmarked}

-- values lie in the spans that were given at some places
abbrev pub Agree : List ℕ → List Given → List (Option ℤ) → Type 0
Agree places given values = (k : ℕ) (g : Given) → slice_get given k ≡ Some g → Contains places k → Holds (Some g.span) (variable_value values g.variable)

-- no values within the bounds at the start that lie in the spans given at these places meet all constraints
abbrev pub AreReasons : List Expression → List Given → List (Option Span) → List ℕ → Type 0
AreReasons es given start places = (values : List (Option ℤ)) → AreMet es values → ((v : ℕ) → LiesWithin start values v) → Agree places given values → ⊥

-- ---- on the way back

-- so it is with values within the bounds at the start that lie, of marked variables, within the bounds there
abbrev pub Rests : List Expression → List Given → List (Option Span) → List (Option Span) → List Bool → List ℕ → Type 0
Rests es given start bounds marks places =
    (values : List (Option ℤ)) → AreMet es values → ((v : ℕ) → LiesWithin start values v) → ((v : ℕ) → IsMarked marks v → LiesWithin bounds values v) → Agree places given values → ⊥

-- the place is added, and the mark of its variable taken off
pub record IsNamed (place variable : ℕ) (old new : List Bool) (places more : List ℕ) : Type 0 where
  pub kept : (k : ℕ) → Contains places k → Contains more k
  pub named : Contains more place
  pub unmarked : IsUnmarked variable old new

-- a constraint that the index has, whose variables are below n
abbrev pub IsKnownCause : Watch → Cause → ℕ → Type 0
IsKnownCause w (cause.Constraint c) n = (c < length w.mentioned.items) × ((v : ℕ) → Has w.mentioned.items c v → v < n)
IsKnownCause w (cause.Given k) n = Unit {0}

-- back over changes of which no variable is marked
pub record IsPassed (changes : List Former) (old new : List Bool) (places more : List ℕ) : Type 0 where
  pub none : NoneIsMarked old changes
  pub marks : new ≡ old
  pub places_same : more ≡ places

-- back over a constraint's: its variables are marked, and none any more that wasn't changed before
pub record IsTaken (w : Watch) (c : ℕ) (firsts : List ℕ) (mark : ℕ) (old new : List Bool) (places more : List ℕ) : Type 0 where
  pub long : length new ≡ length old
  pub kept : AreHeld firsts mark old new
  pub marked : (v : ℕ) → Has w.mentioned.items c v → IsHeld firsts mark new v
  pub places_same : more ≡ places

-- back over a span that was given: it is named
pub record IsGivenBack (k : ℕ) (changes : List Former) (old new : List Bool) (places more : List ℕ) : Type 0 where
  pub first : Former
  pub is_first : slice_get changes 0 ≡ Some first
  pub named : IsNamed k first.variable old new places more

abbrev pub IsBack : Watch → Cause → List ℕ → ℕ → List Former → List Bool → List Bool → List ℕ → List ℕ → Type 0
IsBack w (cause.Constraint c) firsts mark changes old new places more = IsPassed changes old new places more ⊎ IsTaken w c firsts mark old new places more
IsBack w (cause.Given k) firsts mark changes old new places more = IsPassed changes old new places more ⊎ IsGivenBack k changes old new places more
