use Rattle.pst_expr.specs.Tree.{view}
use Rattle.pst_expr.proofs.Weight.{weight, weight_above}
use Rattle.pst_domain.proofs.interval.+interval.Given as goal

abbrev pub decreases-interval : goal.decreases-interval
decreases-interval l = weight (view l.expr.now)

abbrev pub decreases-interval_above : goal.decreases-interval_above
decreases-interval_above l = weight_above l.depth (view l.expr.now)
