use Rattle.std.proofs.Common.{◌≡◌}
use Rattle.pst_expr.specs.Tree.{view}
use Rattle.pst_expr.specs.Left.{left_part}
use Rattle.pst_expr.proofs.tree.Expr.left_part.Given as goal

abbrev pub invariant-loop : goal.invariant-loop
invariant-loop l = view l.part ≡ left_part l.counter (view l.self)
