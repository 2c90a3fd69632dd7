-- Trials of spans for one variable.
use Rattle.std.specs.Prelude.{◌≡◌, ℕ, ◌≤◌, ℤ, List, length, map, take, drop, Bool, true, false, Option, Some, Result, Ok}
use Rattle.pst_base.specs.declared.memory.NoMemory.{NoMemory}
use Rattle.pst_expr.specs.declared.ranges.Span.{Span}
use Rattle.pst_expr.specs.declared.tree.Expr.{Expr}
use Rattle.pst_expr.specs.Tree.{view}
use Rattle.pst_domain.specs.Bounds.{bound_of, AreUpright, AreWithin, IsInside}
use Rattle.pst_narrow.specs.declared.trail.Former.{Former}
use Rattle.pst_narrow.specs.Trail.{put_back, AreBelow}
use Rattle.pst_narrow.specs.Solutions.{AreMet}
use Rattle.pst_narrow.specs.Narrowing.{HaveNone, HaveVariablesBelow, LiesIn, AreOpen}

-- the bounds before the changes from a mark on
abbrev pub bounds_at : ℕ → List Former → List (Option Span) → List (Option Span)
bounds_at mark trail bounds = put_back (drop mark trail) bounds

-- one can go back to the mark and narrow there
pub record IsReady (constraints : List Expr) (mark : ℕ) (trail : List Former) (bounds : List (Option Span)) : Type 0 where
  pub room : mark ≤ length trail
  pub below : AreBelow (length bounds) (drop mark trail)
  pub upright : AreUpright (bounds_at mark trail bounds)
  pub variables : HaveVariablesBelow (length bounds) (map view constraints)

-- every constraint holds, and the variable's value lies in the span
abbrev pub AreMetIn : List Expr → ℕ → Span → List (Option ℤ) → Type 0
AreMetIn constraints variable span values = AreMet (map view constraints) values × LiesIn variable span values

-- what lies below the mark is as before
pub record IsBase (constraints : List Expr) (mark : ℕ) (old_trail new_trail : List Former) (old new : List (Option Span)) : Type 0 where
  pub ready : IsReady constraints mark new_trail new
  pub count : length new ≡ length old
  pub bounds : bounds_at mark new_trail new ≡ bounds_at mark old_trail old
  pub trail : take mark new_trail ≡ take mark old_trail

-- values within bounds stay within others
abbrev pub Keeps : (List (Option ℤ) → Type 0) → List (Option Span) → List (Option Span) → Type 0
Keeps P old new = (values : List (Option ℤ)) → AreWithin old values → P values → AreWithin new values

pub record IsTried (constraints : List Expr) (mark variable : ℕ) (span : Span) (old_trail new_trail : List Former) (old new : List (Option Span)) (result : Result Bool NoMemory) : Type 0 where
  pub base : IsBase constraints mark old_trail new_trail old new
  pub refutes : result ≡ Ok false → HaveNone (AreMetIn constraints variable span) (bounds_at mark old_trail old)
  pub keeps : result ≡ Ok true → Keeps (AreMetIn constraints variable span) (bounds_at mark old_trail old) new
  pub upright : AreUpright new
  pub here : result ≡ Ok true → IsInside (bound_of new variable) (Some span)
  pub others : result ≡ Ok true → (j : ℕ) → (j ≡ variable → ⊥) → IsInside (bound_of new j) (bound_of (bounds_at mark old_trail old) j)
  pub unrefused : result ≡ Ok true → AreOpen (map view constraints) new
