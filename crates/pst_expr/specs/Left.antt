-- The way down the left operands of an expression, which is as long as a chain of operators of one level.
use Rattle.std.specs.Prelude.{ℕ, zero, suc, ℤ, List, Option}
use Rattle.pst_expr.specs.Tree.{Expression, Binary}
use Rattle.pst_expr.specs.Value.{value, binary_value}

-- how many binary operators stand on the way
abbrev pub left_depth : Expression → ℕ
left_depth (Binary op a b) = suc (left_depth a)
left_depth _ = 0

-- the part that stands n operators down
abbrev pub left_part : ℕ → Expression → Expression
left_part zero e = e
left_part (suc n) (Binary op a b) = left_part n a
left_part (suc n) e = e

-- the value of an expression, were v the value of the part that stands n operators down
abbrev pub value_above : ℕ → Expression → Option ℤ → List (Option ℤ) → Option ℤ
value_above zero e v values = v
value_above (suc n) (Binary op a b) v values = binary_value op (value_above n a v values) (value b values)
value_above (suc n) e v values = value e values

-- an expression with another part n operators down
abbrev pub with_left_part : ℕ → Expression → Expression → Expression
with_left_part zero e part = part
with_left_part (suc n) (Binary op a b) part = Binary op (with_left_part n a part) b
with_left_part (suc n) e part = e
