-- Spans of both operands of an operation, from the span in which its value is wanted.
use Rattle.std.specs.Prelude.{ℤ, Option, Some}
use Rattle.pst_expr.specs.declared.ranges.Span.{Span}
use Rattle.pst_expr.specs.declared.tree.BinaryOp.{BinaryOp}
use Rattle.pst_expr.specs.Value.{binary_value}
use Rattle.pst_operands.specs.declared.operands.Operands.{Operands}
use Rattle.pst_operands.specs.Keeps.{KeepsLeft, KeepsRight}

-- no operands are lost for which the operation has a wanted value
pub record KeepOperands (f : ℤ → ℤ → Option ℤ) (old : Operands) (wanted : Span) (new : Operands) : Type 0 where
  pub left : KeepsLeft f old.left old.right wanted new.left
  pub right : KeepsRight f old.left old.right wanted new.right

-- an operator with two operands that have values
abbrev pub applied : BinaryOp → ℤ → ℤ → Option ℤ
applied op x y = binary_value op (Some x) (Some y)
