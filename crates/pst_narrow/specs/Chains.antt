-- Spans of the left operands of an expression.
use Rattle.std.specs.Prelude.{ℕ, ◌-◌, ◌<◌, List, length, Option}
use Rattle.pst_expr.specs.declared.ranges.Span.{Span}
use Rattle.pst_expr.specs.Tree.{Expression}
use Rattle.pst_expr.specs.Left.{left_part}
use Rattle.pst_domain.specs.Bounds.{bound_of}
use Rattle.pst_domain.specs.Laws.{HoldsValues}

-- the last of some spans holds the values of an expression's left operand, the one before it those of that one's left operand, and so on
abbrev pub HoldLeftParts : Expression → List (Option Span) → List (Option Span) → Type 0
HoldLeftParts e spans bounds = (k : ℕ) → k < length spans → HoldsValues (bound_of spans k) (left_part (length spans - k) e) bounds

-- the last of some spans, if there is one, holds the values of an expression
abbrev pub HoldsLast : Expression → List (Option Span) → List (Option Span) → Type 0
HoldsLast e spans bounds = 0 < length spans → HoldsValues (bound_of spans (length spans - 1)) e bounds
