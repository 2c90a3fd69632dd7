-- Spans of sums and differences.
use Rattle.std.specs.Prelude.{ℤ, ◌≤ℤ◌, List, Option}
use Rattle.pst_num.specs.Range.{least, greatest}
use Rattle.pst_expr.specs.declared.ranges.Span.{Span}
use Rattle.pst_expr.specs.declared.tree.BinaryOp.{BinaryOp}
use Rattle.pst_expr.specs.Tree.{Expression, Binary}
use Rattle.pst_domain.specs.Laws.{HoldsValues}

-- each value from a number on is at least the low one; each value up to a number is at most the high one
abbrev pub IsLowEnough : ℤ → ℤ → Type 0
IsLowEnough z low = (x : ℤ) → least ≤ℤ x → z ≤ℤ x → low ≤ℤ x

abbrev pub IsHighEnough : ℤ → ℤ → Type 0
IsHighEnough z high = (x : ℤ) → x ≤ℤ greatest → x ≤ℤ z → x ≤ℤ high

-- a span holds the values of an operator where two others hold those of its operands
abbrev pub HoldsOperator : BinaryOp → Option Span → Option Span → Option Span → Type 0
HoldsOperator op left right whole =
    (p q : Expression) (bounds : List (Option Span)) → HoldsValues left p bounds → HoldsValues right q bounds → HoldsValues whole (Binary op p q) bounds
