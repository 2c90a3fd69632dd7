-- Bounds of variables: a span for each variable that may have a value, none for one that certainly has none.
use Rattle.std.specs.Prelude.{ℕ, ◌+◌, ◌<◌, ℤ, ◌≤ℤ◌, List, length, Option, Some, None, IfSome, All, slice_index_or, ⊤}
use Rattle.pst_expr.specs.declared.ranges.Span.{Span}
use Rattle.pst_expr.specs.Spans.{IsInSpan}
use Rattle.pst_expr.specs.Tree.{Expression, Constant, Variable, Unary, Binary, Element}
use Rattle.pst_expr.specs.Value.{variable_value}

-- the bounds of a variable, none where it stands beyond the list
abbrev pub bound_of : List (Option Span) → ℕ → Option Span
bound_of bounds i = slice_index_or bounds i None

-- no span is reversed
abbrev pub AreUpright : List (Option Span) → Type 0
AreUpright bounds = All (λ b. IfSome b (λ s. s.low ≤ℤ s.high)) bounds

-- the variables of an expression are below n, and so are all elements of its arrays
abbrev pub HasVariablesBelow : ℕ → Expression → Type 0
HasVariablesBelow n (Constant _) = ⊤
HasVariablesBelow n (Variable i) = i < n
HasVariablesBelow n (Unary op e) = HasVariablesBelow n e
HasVariablesBelow n (Binary op a b) = HasVariablesBelow n a × HasVariablesBelow n b
HasVariablesBelow n (Element first count e) = ((i : ℕ) → i < count → first + i < n) × HasVariablesBelow n e

-- a value, if there is one, lies in the span, and without a span there is none
abbrev pub Holds : Option Span → Option ℤ → Type 0
Holds bound None = ⊤
Holds None (Some v) = ⊥
Holds (Some s) (Some v) = IsInSpan v s

-- the values of the variables lie within the bounds
abbrev pub AreWithin : List (Option Span) → List (Option ℤ) → Type 0
AreWithin bounds values = (i : ℕ) → i < length bounds → Holds (bound_of bounds i) (variable_value values i)

-- a span lies inside another; none lies inside every span
abbrev pub IsInside : Option Span → Option Span → Type 0
IsInside None outer = ⊤
IsInside (Some s) None = ⊥
IsInside (Some s) (Some t) = (t.low ≤ℤ s.low) × (s.high ≤ℤ t.high)

-- the bounds of each variable lie inside other bounds of it
abbrev pub AreInside : List (Option Span) → List (Option Span) → Type 0
AreInside inner outer = (i : ℕ) → IsInside (bound_of inner i) (bound_of outer i)
