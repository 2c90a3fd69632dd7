use Rattle.std.proofs.Common.{◌≤◌}
use Rattle.pst_expr.specs.declared.tree.Expr.{size-Expr}
use Rattle.pst_expr.proofs.tree.Expr.+drop.Given as goal

abbrev pub invariant-loop-self : goal.invariant-loop-self
invariant-loop-self l = size-Expr l.self ≤ size-Expr l.initial.self
