use Rattle.pst_expr.specs.Tree.{view}
use Rattle.pst_expr.proofs.Weight.{weight, weight_above}
use Rattle.pst_expr.proofs.copy.+copy.Given as goal

abbrev pub decreases-copy_of : goal.decreases-copy_of
decreases-copy_of l = weight (view l.expr.now)

abbrev pub decreases-copy_above : goal.decreases-copy_above
decreases-copy_above l = weight_above l.depth (view l.expr.now)
