use Rattle.std.proofs.Common.{◌≡◌, length, map}
use Rattle.pst_expr.specs.Tree.{view}
use Rattle.pst_constraints.specs.Implied.{implied_by}
use Rattle.pst_constraints.proofs.made.implied.Given as goal

abbrev pub invariant-loop-last : goal.invariant-loop-last
invariant-loop-last l = implied_by (map view l.left) (view l.found) ≡ implied_by (map view l.conditions) (view l.fn.expr)

abbrev pub decreases-loop-last : goal.decreases-loop-last
decreases-loop-last l = length l.left
