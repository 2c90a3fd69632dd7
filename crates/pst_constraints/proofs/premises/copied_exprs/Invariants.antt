use Rattle.std.proofs.Common.{◌≡◌, ◌++◌, drop, map}
use Rattle.pst_expr.specs.Tree.{view}
use Rattle.pst_constraints.proofs.premises.copied_exprs.Given as goal

abbrev pub invariant-loop-expr : goal.invariant-loop-expr
invariant-loop-expr l = map view l.copy.items ++ map view (drop l.expr-index l.exprs) ≡ map view l.exprs
