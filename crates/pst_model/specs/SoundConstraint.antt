-- When an expression is sound where its variables stand for these slots.
use Rattle.std.specs.Prelude.{ℕ, ◌+◌, ◌<◌, ◌≤◌, All, length}
use Rattle.pst_expr.specs.Tree.{Expression, Constant, Variable, Unary, Binary, Element}
use Rattle.pst_model.specs.Limits.{most_elements}
use Rattle.pst_model.specs.ConstraintTree.{SlotTree, ConstraintTree}

-- each variable is below n, and so are all elements of each array, which has at least one
abbrev pub IsBelow : ℕ → Expression → Type 0
IsBelow n (Constant number) = Unit {0}
IsBelow n (Variable variable) = variable < n
IsBelow n (Unary operator operand) = IsBelow n operand
IsBelow n (Binary operator left right) = IsBelow n left × IsBelow n right
IsBelow n (Element first count index) = (1 ≤ count) × (count ≤ most_elements) × (first + count ≤ n) × IsBelow n index

-- the variables are below the slots, and each slot has a meaning
pub record IsSoundConstraint (IsSlot : SlotTree → Type 0) (c : ConstraintTree) : Type 0 where
  pub below : IsBelow (length c.slots) c.expression
  pub slots : All IsSlot c.slots
