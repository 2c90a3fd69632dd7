use Rattle.std.proofs.Common.{◌≡◌, ◌+◌}
use Rattle.pst_expr.specs.Tree.{view}
use Rattle.pst_expr.specs.Left.{left_depth, left_part}
use Rattle.pst_expr.proofs.tree.Expr.left_end.Given as goal

abbrev pub invariant-loop-depth : goal.invariant-loop-depth
invariant-loop-depth l = record {
  part : view l.part ≡ left_part l.depth (view l.self);
  depth : l.depth + left_depth (view l.part) ≡ left_depth (view l.self);
}
