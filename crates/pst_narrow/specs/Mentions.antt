-- Which variables stand in an expression.
use Rattle.std.specs.Prelude.{◌≡◌, ℕ, ◌+◌, ◌<◌, ◌⊎◌, ℤ, List, length, Option, Contains}
use Rattle.pst_expr.specs.declared.ranges.Span.{Span}
use Rattle.pst_expr.specs.Tree.{Expression, Constant, Variable, Unary, Binary, Element}
use Rattle.pst_expr.specs.Value.{value, variable_value}
use Rattle.pst_domain.specs.Bounds.{bound_of}
use Rattle.pst_domain.specs.Interval.{interval}

-- the variable is an element of an array
abbrev pub IsElement : ℕ → ℕ → ℕ → Type 0
IsElement first count v = (i : ℕ) × (i < count) × (v ≡ first + i)

-- the variable stands in the expression; so do all elements of its arrays
abbrev pub Mentions : Expression → ℕ → Type 0
Mentions (Constant n) v = ⊥
Mentions (Variable i) v = v ≡ i
Mentions (Unary op e) v = Mentions e v
Mentions (Binary op a b) v = Mentions a v ⊎ Mentions b v
Mentions (Element first count e) v = IsElement first count v ⊎ Mentions e v

-- values, and bounds, that agree at the variables of an expression
abbrev pub SameValues : Expression → List (Option ℤ) → List (Option ℤ) → Type 0
SameValues e xs ys = (v : ℕ) → Mentions e v → variable_value xs v ≡ variable_value ys v

pub record SameBounds (e : Expression) (a b : List (Option Span)) : Type 0 where
  pub count : length a ≡ length b
  pub each : (v : ℕ) → Mentions e v → bound_of a v ≡ bound_of b v

-- other variables don't matter to the value of an expression, nor to its span
pub record OthersDontMatter : Type 0 where
  pub values : (e : Expression) (xs ys : List (Option ℤ)) → SameValues e xs ys → value e xs ≡ value e ys
  pub spans : (e : Expression) (a b : List (Option Span)) → SameBounds e a b → interval e a ≡ interval e b

-- numbers were added to a list: those with the property, and no others
pub record AreNoted (P : ℕ → Type 0) (old new : List ℕ) : Type 0 where
  pub kept : (v : ℕ) → Contains old v → Contains new v
  pub added : (v : ℕ) → P v → Contains new v
  pub only : (v : ℕ) → Contains new v → Contains old v ⊎ P v
