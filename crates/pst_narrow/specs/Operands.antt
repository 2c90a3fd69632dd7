-- Spans of the operands of an operator, from the span that its value is to lie in.
use Rattle.std.specs.Prelude.{ℤ, List, Bool, true, false, Option}
use Rattle.pst_expr.specs.declared.ranges.Span.{Span}
use Rattle.pst_expr.specs.declared.tree.UnaryOp.{UnaryOp}
use Rattle.pst_expr.specs.declared.tree.BinaryOp.{BinaryOp}
use Rattle.pst_expr.specs.declared.tree.BinaryOp.TheVariants.{And, Or, Implies}
use Rattle.pst_expr.specs.Tree.{Expression, Unary, Binary}
use Rattle.pst_domain.specs.Bounds.{AreWithin}
use Rattle.pst_narrow.specs.declared.parts.Parts.{Parts}
use Rattle.pst_narrow.specs.Narrowing.{GivesIn}
use Rattle.pst_narrow.specs.Parts.{GiveIn}

-- an operator that has a value only where both its operands have one
abbrev pub needs_both : BinaryOp → Bool
needs_both And = false
needs_both Or = false
needs_both Implies = false
needs_both _ = true

-- values within the bounds, under which the operator's value is wanted, give the operands values within the spans
abbrev pub GiveOperands : BinaryOp → Expression → Expression → Span → Parts → List (Option Span) → Type 0
GiveOperands op p q wanted parts bounds =
    (values : List (Option ℤ)) → AreWithin bounds values → GivesIn (Binary op p q) wanted values → GiveIn p q parts values

-- and an operand of its own a value within the span
abbrev pub GivesOperand : UnaryOp → Expression → Span → Span → List (Option Span) → Type 0
GivesOperand op p wanted span bounds =
    (values : List (Option ℤ)) → AreWithin bounds values → GivesIn (Unary op p) wanted values → GivesIn p span values
