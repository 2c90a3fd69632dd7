-- Values of a variable that are passed.
use Rattle.std.specs.Prelude.{◌≡◌, ℕ, ◌<◌, ◌≤◌, ℤ, List, length, map, Bool, true, false, Option, Some, Contains}
use Rattle.pst_expr.specs.declared.ranges.Span.{Span}
use Rattle.pst_expr.specs.Spans.{size_of}
use Rattle.pst_expr.specs.Tree.{view}
use Rattle.pst_expr.specs.Value.{variable_value}
use Rattle.pst_narrow.specs.Local.{LiesWithin}
use Rattle.pst_narrow.specs.Narrowing.{IsIn}
use Rattle.pst_narrow.specs.Solutions.{AreMet}
use Rattle.pst_reasons.specs.declared.reasons.Narrowed.{Narrowed}
use Rattle.pst_reasons.specs.Giving.{start_of}
use Rattle.pst_reasons.specs.Reasons.{Agree}
use Rattle.pst_values.specs.Options.{option_at}
use Rattle.pst_fitting.specs.declared.fitting.Fitting.{Fitting}
use Rattle.pst_fitting.specs.Places.{AreBelow}

-- values within the bounds at the start that meet all constraints and lie in the spans given at some places
pub record AreSolution (s : Narrowed) (places : List ℕ) (values : List (Option ℤ)) : Type 0 where
  pub met : AreMet (map view s.constraints.items) values
  pub start : (v : ℕ) → LiesWithin (start_of s) values v
  pub agree : Agree places s.given.items values

-- none of them has this value of the variable
abbrev pub Excludes : Narrowed → List ℕ → ℕ → ℤ → Type 0
Excludes s places variable v = (values : List (Option ℤ)) → AreSolution s places values → variable_value values variable ≡ Some v → ⊥

-- nor any of the values of a domain at the places of an order from one to below another
abbrev pub ExcludesAll : Narrowed → List ℕ → ℕ → List Span → ℕ → ℕ → ℕ → Type 0
ExcludesAll s places variable spans start from to =
    (place : ℕ) → from ≤ place → place < to → (v : ℤ) → option_at spans start place ≡ Some v → Excludes s places variable v

-- the values before the place are passed, for reasons among the spans given
pub record Passes (s : Narrowed) (variable : ℕ) (spans : List Span) (start from : ℕ) (found : Fitting) : Type 0 where
  pub least : from ≤ found.place
  pub most : found.place ≤ size_of spans
  pub below : AreBelow found.reasons.items (length s.given.items)
  pub passed : ExcludesAll s found.reasons.items variable spans start from found.place

-- a span is refused, for further reasons
pub record IsRefused (s : Narrowed) (variable : ℕ) (span : Span) (old new : List ℕ) : Type 0 where
  pub kept : (k : ℕ) → Contains old k → Contains new k
  pub below : AreBelow new (length s.given.items)
  pub none : (values : List (Option ℤ)) → AreSolution s new values → IsIn span (variable_value values variable) → ⊥

-- or nothing is told
abbrev pub Tries : Bool → Narrowed → ℕ → Span → List ℕ → List ℕ → Type 0
Tries true s variable span old new = new ≡ old
Tries false s variable span old new = IsRefused s variable span old new
