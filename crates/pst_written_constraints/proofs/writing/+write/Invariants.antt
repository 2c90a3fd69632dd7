use Rattle.pst_expr.specs.Tree.{view}
use Rattle.pst_expr.proofs.Weight.{weight, weight_above}
use Rattle.pst_written_constraints.proofs.writing.+write.Given as goal

abbrev pub decreases-write : goal.decreases-write
decreases-write l = weight (view l.expr.now)

abbrev pub decreases-write_above : goal.decreases-write_above
decreases-write_above l = weight_above l.depth (view l.expr.now)
