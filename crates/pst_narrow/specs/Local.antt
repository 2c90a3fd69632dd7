-- What a constraint narrows rests on the bounds of its own variables alone.
use Rattle.std.specs.Prelude.{ℕ, ℤ, List, Option}
use Rattle.pst_expr.specs.declared.ranges.Span.{Span}
use Rattle.pst_expr.specs.Tree.{Expression}
use Rattle.pst_expr.specs.Value.{variable_value}
use Rattle.pst_domain.specs.Bounds.{bound_of, Holds}
use Rattle.pst_narrow.specs.Solutions.{IsMet}
use Rattle.pst_narrow.specs.Narrowing.{Narrows, HaveNone}
use Rattle.pst_narrow.specs.Mentions.{Mentions}

-- the value of a variable, if there is one, lies within the bounds
abbrev pub LiesWithin : List (Option Span) → List (Option ℤ) → ℕ → Type 0
LiesWithin bounds values v = Holds (bound_of bounds v) (variable_value values v)

-- so do the values of the variables of an expression
abbrev pub LieWithin : List (Option Span) → List (Option ℤ) → Expression → Type 0
LieWithin bounds values e = (v : ℕ) → Mentions e v → LiesWithin bounds values v

-- values that meet a constraint and lie within bounds at its variables and at one variable more, lie within others at that one
abbrev pub IsLocal : Expression → List (Option Span) → List (Option Span) → Type 0
IsLocal e old new = (values : List (Option ℤ)) → IsMet e values → LieWithin old values e → (v : ℕ) → LiesWithin old values v → LiesWithin new values v

-- no values within the bounds at its variables meet a constraint
abbrev pub IsLocallyUnmet : Expression → List (Option Span) → Type 0
IsLocallyUnmet e bounds = (values : List (Option ℤ)) → IsMet e values → LieWithin bounds values e → ⊥

pub record NarrowingIsLocal : Type 0 where
  pub narrows : (e : Expression) (old new : List (Option Span)) → Narrows (IsMet e) old new → IsLocal e old new
  pub unmet : (e : Expression) (bounds : List (Option Span)) → HaveNone (IsMet e) bounds → IsLocallyUnmet e bounds
