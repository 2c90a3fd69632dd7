use Rattle.pst_expr.specs.Tree.{view}
use Rattle.pst_expr.proofs.Weight.{weight}
use Rattle.pst_narrow.proofs.demand.+demand_known.Given as goal

abbrev pub decreases-demand_known : goal.decreases-demand_known
decreases-demand_known l = weight (view l.expr.now)
