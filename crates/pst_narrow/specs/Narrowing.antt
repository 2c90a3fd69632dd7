-- What narrowing keeps.
use Rattle.std.specs.Prelude.{◌≡◌, ℕ, ℤ, ◌+ℤ◌, ◌≤ℤ◌, List, length, Bool, false, All, Option, Some, None, Result, Ok}
use Rattle.pst_base.specs.declared.memory.NoMemory.{NoMemory}
use Rattle.pst_expr.specs.declared.ranges.Span.{Span}
use Rattle.pst_expr.specs.Spans.{IsInSpan}
use Rattle.pst_expr.specs.Tree.{Expression}
use Rattle.pst_expr.specs.Value.{value, variable_value}
use Rattle.pst_domain.specs.Bounds.{bound_of, AreUpright, AreWithin, AreInside, HasVariablesBelow}
use Rattle.pst_domain.specs.Interval.{interval, is_refused}
use Rattle.pst_narrow.specs.declared.trail.Former.{Former}
use Rattle.pst_narrow.specs.Trail.{Extends}

-- bounds became narrower, none is lost, and values within them that have the property stay within them
pub record Narrows (P : List (Option ℤ) → Type 0) (old new : List (Option Span)) : Type 0 where
  pub count : length new ≡ length old
  pub inside : AreInside new old
  pub upright : AreUpright new
  pub there : (i : ℕ) → bound_of new i ≡ None → bound_of old i ≡ None
  pub keeps : (values : List (Option ℤ)) → AreWithin old values → P values → AreWithin new values

-- no values within the bounds have the property
abbrev pub HaveNone : (List (Option ℤ) → Type 0) → List (Option Span) → Type 0
HaveNone P bounds = (values : List (Option ℤ)) → AreWithin bounds values → P values → ⊥

-- a step of narrowing, and false only where no values have the property
pub record IsStep (P : List (Option ℤ) → Type 0) (old new : List (Option Span)) (old_trail new_trail : List Former) (result : Result Bool NoMemory) : Type 0 where
  pub narrows : Narrows P old new
  pub extends : Extends old_trail new_trail old new
  pub refutes : result ≡ Ok false → HaveNone P old

-- a value that is there and lies in a span
abbrev pub IsIn : Span → Option ℤ → Type 0
IsIn s None = ⊥
IsIn s (Some v) = IsInSpan v s

abbrev pub LiesIn : ℕ → Span → List (Option ℤ) → Type 0
LiesIn i s values = IsIn s (variable_value values i)

abbrev pub GivesIn : Expression → Span → List (Option ℤ) → Type 0
GivesIn e s values = IsIn s (value e values)

-- the variables of each constraint are below n
abbrev pub HaveVariablesBelow : ℕ → List Expression → Type 0
HaveVariablesBelow n constraints = All (HasVariablesBelow n) constraints

-- no constraint is refused
abbrev pub AreOpen : List Expression → List (Option Span) → Type 0
AreOpen constraints bounds = All (λ e. is_refused (interval e bounds) ≡ false) constraints

-- two values are there, and compare
abbrev pub BothAre : (ℤ → ℤ → Type 0) → Option ℤ → Option ℤ → Type 0
BothAre R None q = ⊥
BothAre R (Some x) None = ⊥
BothAre R (Some x) (Some y) = R x y

-- the values of two expressions are there, and the left one with the gap is at most the right one
abbrev pub AreAhead : ℤ → Expression → Expression → List (Option ℤ) → Type 0
AreAhead gap p q values = BothAre (λ x y. (x +ℤ gap) ≤ℤ y) (value p values) (value q values)

abbrev pub AreEqual : Expression → Expression → List (Option ℤ) → Type 0
AreEqual p q values = BothAre ◌≡◌ (value p values) (value q values)
