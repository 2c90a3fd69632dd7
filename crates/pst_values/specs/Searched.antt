-- Searching the values of a domain, in the order of a seed, for one that narrowing admits.
use Rattle.std.specs.Prelude.{◌≡◌, ℕ, ◌<◌, ◌≤◌, ℤ, List, map, Option, Some, None, Result, Ok, Err, ⊤}
use Rattle.pst_base.specs.declared.memory.NoMemory.{NoMemory}
use Rattle.pst_expr.specs.declared.ranges.Span.{Span}
use Rattle.pst_expr.specs.declared.tree.Expr.{Expr}
use Rattle.pst_expr.specs.Spans.{size_of}
use Rattle.pst_expr.specs.Tree.{view}
use Rattle.pst_expr.specs.Value.{variable_value}
use Rattle.pst_domain.specs.Bounds.{bound_of, AreUpright, IsInside}
use Rattle.pst_narrow.specs.declared.trail.Former.{Former}
use Rattle.pst_narrow.specs.Solutions.{AreMet}
use Rattle.pst_narrow.specs.Narrowing.{HaveNone, AreOpen}
use Rattle.pst_values.specs.Options.{option_at}
use Rattle.pst_values.specs.Solver.{bounds_at, IsBase, Keeps}

-- every constraint holds, and the variable has the value
abbrev pub AreMetAt : List Expr → ℕ → ℤ → List (Option ℤ) → Type 0
AreMetAt constraints variable v values = AreMet (map view constraints) values × (variable_value values variable ≡ Some v)

-- no values within the bounds meet the constraints with a value of the domain at a place from one to below another
abbrev pub AreBarren : List Expr → ℕ → List Span → ℕ → List (Option Span) → ℕ → ℕ → Type 0
AreBarren constraints variable spans start bounds from to =
    (place : ℕ) → from ≤ place → place < to → (v : ℤ) → option_at spans start place ≡ Some v → HaveNone (AreMetAt constraints variable v) bounds

-- the place that was found, and what lies before it
pub record IsFirst (constraints : List Expr) (variable : ℕ) (spans : List Span) (start from place : ℕ) (bounds new : List (Option Span)) : Type 0 where
  pub after : from ≤ place
  pub below : place < size_of spans
  pub barren : AreBarren constraints variable spans start bounds from place
  pub keeps : (v : ℤ) → option_at spans start place ≡ Some v → Keeps (AreMetAt constraints variable v) bounds new
  pub here : (v : ℤ) → option_at spans start place ≡ Some v → IsInside (bound_of new variable) (Some (record { low = v; high = v }))
  pub others : (j : ℕ) → (j ≡ variable → ⊥) → IsInside (bound_of new j) (bound_of bounds j)
  pub unrefused : AreOpen (map view constraints) new

abbrev pub Finds : List Expr → ℕ → List Span → ℕ → ℕ → List (Option Span) → List (Option Span) → Result (Option ℕ) NoMemory → Type 0
Finds constraints variable spans start from bounds new (Ok (Some place)) = IsFirst constraints variable spans start from place bounds new
Finds constraints variable spans start from bounds new (Ok None) = AreBarren constraints variable spans start bounds from (size_of spans)
Finds constraints variable spans start from bounds new (Err e) = ⊤

pub record IsSearched (constraints : List Expr) (mark variable : ℕ) (spans : List Span) (start from : ℕ) (old_trail new_trail : List Former) (old new : List (Option Span)) (result : Result (Option ℕ) NoMemory) : Type 0 where
  pub base : IsBase constraints mark old_trail new_trail old new
  pub upright : AreUpright new
  pub finds : Finds constraints variable spans start from (bounds_at mark old_trail old) new result
