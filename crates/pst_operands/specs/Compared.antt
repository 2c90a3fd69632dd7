-- Spans of two numbers that compare.
use Rattle.std.specs.Prelude.{ℤ}
use Rattle.pst_expr.specs.Spans.{IsInSpan}
use Rattle.pst_operands.specs.declared.operands.Operands.{Operands}

-- pairs of numbers between which a relation holds stay
abbrev pub KeepPairs : (ℤ → ℤ → Type 0) → Operands → Operands → Type 0
KeepPairs R old new = (x y : ℤ) → IsInSpan x old.left → IsInSpan y old.right → R x y → IsInSpan x new.left × IsInSpan y new.right
