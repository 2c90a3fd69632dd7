-- Values that variables are given one after another, by number.
use Rattle.std.specs.Prelude.{◌≡◌, ℕ, ◌+◌, ◌<◌, ◌≤◌, ℤ, List, [], ◌∷◌, ◌++◌, length, map, Option, Some, None, Contains}
use Rattle.pst_expr.specs.declared.ranges.Span.{Span}
use Rattle.pst_expr.specs.declared.tree.Expr.{Expr}
use Rattle.pst_expr.specs.Tree.{view}
use Rattle.pst_expr.specs.Spans.{size_of}
use Rattle.pst_expr.specs.Value.{variable_value}
use Rattle.pst_domain.specs.Bounds.{AreInside}
use Rattle.pst_narrow.specs.Solutions.{AreMet}
use Rattle.pst_narrow.specs.Local.{LiesWithin}
use Rattle.pst_narrow.specs.Narrowing.{Narrows, HaveNone, AreOpen}
use Rattle.pst_reasons.specs.declared.step.Given.{Given}
use Rattle.pst_reasons.specs.Giving.{with_given}
use Rattle.pst_reasons.specs.Reasons.{Agree, AreReasons}
use Rattle.pst_values.specs.Options.{option_at}
use Rattle.pst_fitting.specs.declared.fitting.Fitting.{Fitting}

-- the constraints, the bounds of the variables and the values
pub record Kept : Type 0 where
  pub constraints : List Expr
  pub bounds : List (Option Span)
  pub values : List ℤ

abbrev pub with_value : Kept → ℤ → Kept
with_value k value = record k { values = k.values ++ value ∷ [] }

abbrev pub point : ℤ → Span
point value = record { low = value; high = value }

-- the spans by which variables, from that number on, are given values
abbrev pub points_from : ℕ → List ℤ → List Given
points_from number [] = []
points_from number (value ∷ values) = record { variable = number; span = point value } ∷ points_from (number + 1) values

abbrev pub points : List ℤ → List Given
points values = points_from 0 values

-- no values that meet the constraints and lie within the bounds are the same as those given at these places
pub record Refuses (k : Kept) (places : List ℕ) : Type 0 where
  pub reasons : AreReasons (map view k.constraints) (points k.values) k.bounds places
  pub within : (i : ℕ) → Contains places i → i < length k.values

-- at bounds that hold the values and, of all other variables, the bounds at the start, no constraint is refused
abbrev pub RefusesNothing : Kept → Type 0
RefusesNothing k = (bounds : List (Option Span)) → AreInside (with_given k.bounds (points k.values)) bounds → AreOpen (map view k.constraints) bounds

-- no values that meet the constraints, lie within the bounds and are the same as those given at these places have this one next
abbrev pub ExcludesNext : Kept → List ℕ → ℤ → Type 0
ExcludesNext k places value =
    (values : List (Option ℤ)) → AreMet (map view k.constraints) values → ((v : ℕ) → LiesWithin k.bounds values v) → Agree places (points k.values) values
    → variable_value values (length k.values) ≡ Some value → ⊥

-- values of a domain that are skipped, from a place of their order on
pub record Skips (k : Kept) (spans : List Span) (start from : ℕ) (found : Fitting) : Type 0 where
  pub least : from ≤ found.place
  pub most : found.place ≤ size_of spans
  pub within : (i : ℕ) → Contains found.reasons.items i → i < length k.values
  pub each : (place : ℕ) → from ≤ place → place < found.place → (value : ℤ) → option_at spans start place ≡ Some value → ExcludesNext k found.reasons.items value

-- no value is given, under bounds that were narrowed by the constraints; or no values within the bounds meet them
pub record IsBegun (constraints : List Expr) (bounds : List (Option Span)) (k : Kept) : Type 0 where
  pub constraints_same : k.constraints ≡ constraints
  pub narrows : Narrows (AreMet (map view constraints)) bounds k.bounds
  pub none : k.values ≡ []

abbrev pub Begins : List Expr → List (Option Span) → Option Kept → Type 0
Begins constraints bounds None = HaveNone (AreMet (map view constraints)) bounds
Begins constraints bounds (Some k) = IsBegun constraints bounds k
