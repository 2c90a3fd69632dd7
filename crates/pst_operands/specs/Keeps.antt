-- Spans that were cut: numbers with a property stay.
use Rattle.std.specs.Prelude.{◌≡◌, ℤ, Option, Some}
use Rattle.pst_expr.specs.declared.ranges.Span.{Span}
use Rattle.pst_expr.specs.Spans.{IsInSpan}

-- the numbers of a span that have a property lie in the new one
abbrev pub Keeps : (ℤ → Type 0) → Span → Span → Type 0
Keeps P old new = (x : ℤ) → IsInSpan x old → P x → IsInSpan x new

-- so do those for which an operation has a wanted value with some operand on the right
abbrev pub KeepsLeft : (ℤ → ℤ → Option ℤ) → Span → Span → Span → Span → Type 0
KeepsLeft f left right wanted new =
    (x y z : ℤ) → IsInSpan x left → IsInSpan y right → IsInSpan z wanted → f x y ≡ Some z → IsInSpan x new

-- and those on the right, with some operand on the left
abbrev pub KeepsRight : (ℤ → ℤ → Option ℤ) → Span → Span → Span → Span → Type 0
KeepsRight f left right wanted new =
    (x y z : ℤ) → IsInSpan x left → IsInSpan y right → IsInSpan z wanted → f x y ≡ Some z → IsInSpan y new

-- and the operand of an operation with one
abbrev pub KeepsOperand : (ℤ → Option ℤ) → Span → Span → Span → Type 0
KeepsOperand f old wanted new = (x z : ℤ) → IsInSpan x old → IsInSpan z wanted → f x ≡ Some z → IsInSpan x new
