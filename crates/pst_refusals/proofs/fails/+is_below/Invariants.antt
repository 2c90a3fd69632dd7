use Rattle.std.proofs.Common.{◌≡◌, ◌≤◌}
use Rattle.pst_expr.specs.declared.tree.Expr.{size-Expr}
use Rattle.pst_expr.specs.Tree.{view}
use Rattle.pst_domain.specs.Bounds.{HasVariablesBelow}
use Rattle.pst_refusals.proofs.fails.+is_below.Given as goal

abbrev pub decreases-is_below : goal.decreases-is_below
decreases-is_below l = goal.size-is_below l

-- the whole expression is below n where what is left of it is
abbrev pub invariant-loop-rest : goal.invariant-loop-rest
invariant-loop-rest l = record {
  smaller : size-Expr l.rest ≤ size-Expr l.fn.expr;
  below : HasVariablesBelow l.n (view l.rest) → HasVariablesBelow l.n (view l.fn.expr);
  same : l.n ≡ l.fn.n;
}
