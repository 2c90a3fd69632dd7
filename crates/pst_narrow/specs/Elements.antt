-- Elements of arrays, and the indices at which they may lie in a span.
use Rattle.std.specs.Prelude.{ℕ, ◌+◌, ◌<◌, ℤ, List, Option, Some}
use Rattle.pst_expr.specs.declared.ranges.Span.{Span}
use Rattle.pst_expr.specs.Spans.{IsInSpan}
use Rattle.pst_expr.specs.Tree.{Expression, Element}
use Rattle.pst_expr.specs.Value.{given, element_value}
use Rattle.pst_domain.specs.Bounds.{Holds, AreWithin}
use Rattle.pst_narrow.specs.Narrowing.{IsIn, GivesIn}

-- the elements of an array are variables below n
abbrev pub HasElementsBelow : ℕ → ℕ → ℕ → Type 0
HasElementsBelow n first count = (i : ℕ) → i < count → first + i < n

-- no value of a bound lies in a span
abbrev pub Misses : Option Span → Span → Type 0
Misses bound wanted = (v : ℤ) → Holds bound (Some v) → IsInSpan v wanted → ⊥

-- the element at an index is there and lies in a span
abbrev pub ElementLiesIn : ℕ → ℕ → Span → ℤ → List (Option ℤ) → Type 0
ElementLiesIn first count wanted i values = IsIn wanted (given (element_value values first count i))

-- indices stay at which, under values within the bounds, an element may lie in a span
abbrev pub KeepsPlaces : ℕ → ℕ → Span → Span → List (Option Span) → Span → Type 0
KeepsPlaces first count wanted old bounds new =
    (values : List (Option ℤ)) → AreWithin bounds values → (i : ℤ) → IsInSpan i old → ElementLiesIn first count wanted i values → IsInSpan i new

-- where an element lies in a span, the index has a value in another one
abbrev pub GivesIndex : ℕ → ℕ → Expression → Span → Span → List (Option Span) → Type 0
GivesIndex first count e wanted places bounds =
    (values : List (Option ℤ)) → AreWithin bounds values → GivesIn (Element first count e) wanted values → GivesIn e places values

-- an element at one of some indices lies in a span
abbrev pub OneLiesIn : ℕ → ℕ → Span → Span → List (Option ℤ) → Type 0
OneLiesIn first count places wanted values = (i : ℤ) × IsInSpan i places × ElementLiesIn first count wanted i values
