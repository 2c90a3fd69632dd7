-- Spans of two operands.
use Rattle.std.specs.Prelude.{◌≡◌, ℤ, ◌+ℤ◌, ◌≤ℤ◌, List, Option, Some, None, ⊤}
use Rattle.pst_expr.specs.declared.ranges.Span.{Span}
use Rattle.pst_expr.specs.Spans.{IsInSpan}
use Rattle.pst_expr.specs.Tree.{Expression}
use Rattle.pst_expr.specs.Value.{value}
use Rattle.pst_domain.specs.Interval.{interval}
use Rattle.pst_domain.specs.Laws.{HoldsValues}
use Rattle.pst_narrow.specs.declared.parts.Parts.{Parts}
use Rattle.pst_narrow.specs.Narrowing.{GivesIn, HaveNone, BothAre}

-- both expressions have values in the spans
abbrev pub GiveIn : Expression → Expression → Parts → List (Option ℤ) → Type 0
GiveIn p q parts values = GivesIn p parts.left values × GivesIn q parts.right values

-- the spans of two expressions; without them one of the two has no value
pub record AreBoth (p q : Expression) (bounds : List (Option Span)) (parts : Parts) : Type 0 where
  pub left : HoldsValues (Some parts.left) p bounds
  pub right : HoldsValues (Some parts.right) q bounds
  pub left_is : interval p bounds ≡ Some parts.left
  pub right_is : interval q bounds ≡ Some parts.right

abbrev pub AreSpansOf : Expression → Expression → List (Option Span) → Option Parts → Type 0
AreSpansOf p q bounds None = HaveNone (λ values. BothAre (λ x y. ⊤) (value p values) (value q values)) bounds
AreSpansOf p q bounds (Some parts) = AreBoth p q bounds parts

-- the spans of x in s and y in t with x + gap <= y; without them there are no such numbers
pub record IsCutAhead (gap : ℤ) (s t : Span) (parts : Parts) : Type 0 where
  pub left_low : parts.left.low ≡ s.low
  pub left_high : (parts.left.high +ℤ gap) ≡ t.high
  pub right_low : parts.right.low ≡ s.low +ℤ gap
  pub right_high : parts.right.high ≡ t.high

abbrev pub AreCutAhead : ℤ → Span → Span → Option Parts → Type 0
AreCutAhead gap s t None = (x y : ℤ) → IsInSpan x s → IsInSpan y t → (x +ℤ gap) ≤ℤ y → ⊥
AreCutAhead gap s t (Some parts) = IsCutAhead gap s t parts
