-- What a search for values sees, and what a value is that it gives.
use Rattle.std.specs.Prelude.{◌≡◌, ℕ, ◌+◌, ◌<◌, ◌≤◌, ℤ, List, [], ◌∷◌, ◌++◌, length, slice_index_or, map, Option, Some, None}
use Rattle.pst_expr.specs.declared.ranges.Span.{Span}
use Rattle.pst_expr.specs.Spans.{IsInSpans, size_of}
use Rattle.pst_expr.specs.declared.tree.Expr.{Expr}
use Rattle.pst_expr.specs.Tree.{Expression, view}
use Rattle.pst_expr.specs.Value.{variable_value}
use Rattle.pst_domain.specs.Bounds.{bound_of, Holds}
use Rattle.pst_rng.specs.Words.{start_of}
use Rattle.pst_narrow.specs.Solutions.{AreMet}
use Rattle.pst_narrow.specs.Narrowing.{AreOpen}
use Rattle.pst_values.specs.declared.tried.Tried.{Tried}
use Rattle.pst_values.specs.Options.{option_at}

-- the domains of the variables and the constraints, the seed and the place of the first variable, and for the variables
-- before the current one and for that one how many values were passed, and the value
pub record Search : Type 0 where
  pub domains : List (List Span)
  pub constraints : List Expr
  pub seed : ℕ
  pub place : ℕ
  pub earlier : List Tried
  pub current : Tried

-- nothing was tried
abbrev pub fresh : Tried
fresh = record { passed = 0; value = None }

-- the values of a variable, by its number
abbrev pub domain_of : List (List Span) → ℕ → List Span
domain_of domains i = slice_index_or domains i []

-- a value of a domain
abbrev pub IsOneOf : List Span → Option ℤ → Type 0
IsOneOf domain None = ⊥
IsOneOf domain (Some v) = IsInSpans v domain

-- a solution gives each variable a value of its domain, under which every constraint holds
pub record IsSolution (domains : List (List Span)) (constraints : List Expression) (values : List (Option ℤ)) : Type 0 where
  pub each : (i : ℕ) → i < length domains → IsOneOf (domain_of domains i) (variable_value values i)
  pub met : AreMet constraints values

-- values agree with those that variables have
abbrev pub Agree : List Tried → List (Option ℤ) → Type 0
Agree tried values = (i : ℕ) (d : Tried) → i < length tried → variable_value values i ≡ (slice_index_or tried i d).value

-- a value that a variable may have: one of its domain, and the one that it has where it has one
pub record IsPossible (domains : List (List Span)) (tried : List Tried) (i : ℕ) (v : ℤ) : Type 0 where
  pub one : IsInSpans v (domain_of domains i)
  pub given : (d : Tried) → i < length tried → (slice_index_or tried i d).value ≡ Some v

-- a bound that holds every value that a variable may have
abbrev pub HoldsPossible : List (List Span) → List Tried → ℕ → Option Span → Type 0
HoldsPossible domains tried i bound = (v : ℤ) → IsPossible domains tried i v → Holds bound (Some v)

-- bounds that hold all values that the variables may have
abbrev pub HoldAllPossible : List (List Span) → List Tried → List (Option Span) → Type 0
HoldAllPossible domains tried bounds = (i : ℕ) → i < length domains → HoldsPossible domains tried i (bound_of bounds i)

-- no constraint is refused at any bounds that hold all values that the variables may have
abbrev pub IsOpen : Search → Type 0
IsOpen s = (bounds : List (Option Span)) → HoldAllPossible s.domains (s.earlier ++ s.current ∷ []) bounds → AreOpen (map view s.constraints) bounds

-- no solution agrees with the values before the current variable, and has this value there
abbrev pub IsBarren : Search → ℤ → Type 0
IsBarren s v =
    (values : List (Option ℤ)) → IsSolution s.domains (map view s.constraints) values → Agree s.earlier values → variable_value values (length s.earlier) ≡ Some v → ⊥

-- how many values the current variable may have, and the one at a place of the seed's order
abbrev pub size : Search → ℕ
size s = size_of (domain_of s.domains (length s.earlier))

abbrev pub value_at : Search → ℕ → Option ℤ
value_at s place = option_at (domain_of s.domains (length s.earlier)) (start_of s.seed (s.place + length s.earlier) (size s)) place

-- every value at the places from one to below another is barren
abbrev pub AllBarren : Search → ℕ → ℕ → Type 0
AllBarren s from to = (place : ℕ) → from ≤ place → place < to → (v : ℤ) → value_at s place ≡ Some v → IsBarren s v

-- the search where other values of the current variable were tried
abbrev pub with_tried : Search → ℕ → Option ℤ → Search
with_tried s passed value = record { domains = s.domains; constraints = s.constraints; seed = s.seed; place = s.place; earlier = s.earlier; current = record { passed = passed; value = value } }

-- a value is the first, in the seed's order and after those that were passed, that isn't skipped; skipped ones are barren,
-- and with the value no constraint is refused
pub record Gives (old new : Search) (v : ℤ) : Type 0 where
  pub at : ℕ
  pub after : old.current.passed ≤ at
  pub below : at < size old
  pub is : value_at old at ≡ Some v
  pub skipped : AllBarren old old.current.passed at
  pub unrefused : IsOpen new
  pub new_is : new ≡ with_tried old (at + 1) (Some v)

-- none is left: all that weren't passed are barren
pub record Ends (old new : Search) : Type 0 where
  pub barren : AllBarren old old.current.passed (size old)
  pub new_is : new ≡ with_tried old (size old) None

-- on to the next variable
pub record GoesOn (old new : Search) : Type 0 where
  pub more : length old.earlier + 1 < length old.domains
  pub new_is : new ≡ record { domains = old.domains; constraints = old.constraints; seed = old.seed; place = old.place; earlier = old.earlier ++ old.current ∷ []; current = fresh }

-- back to the variable before, which keeps its value
pub record GoesBack (old new : Search) : Type 0 where
  pub earlier : old.earlier ≡ new.earlier ++ new.current ∷ []
  pub domains : new.domains ≡ old.domains
  pub constraints : new.constraints ≡ old.constraints
  pub seed : new.seed ≡ old.seed
  pub place : new.place ≡ old.place
