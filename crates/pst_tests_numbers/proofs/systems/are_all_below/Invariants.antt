use Rattle.std.proofs.Common.{ℕ, ◌<◌, get_or}
use Rattle.pst_expr.specs.declared.tree.Expr.{Expr}
use Rattle.pst_expr.specs.Tree.{view}
use Rattle.pst_domain.specs.Bounds.{HasVariablesBelow}
use Rattle.pst_tests_numbers.proofs.systems.are_all_below.Given as goal

abbrev pub invariant-loop-constraint : goal.invariant-loop-constraint
invariant-loop-constraint l = (k : ℕ) → k < l.constraint-index → (d : Expr) → HasVariablesBelow l.count (view (get_or l.constraints k d))
