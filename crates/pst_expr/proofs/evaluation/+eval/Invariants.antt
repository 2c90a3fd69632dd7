use Rattle.pst_expr.specs.Tree.{view}
use Rattle.pst_expr.proofs.Weight.{weight, weight_above}
use Rattle.pst_expr.proofs.evaluation.+eval.Given as goal

abbrev pub decreases-eval : goal.decreases-eval
decreases-eval l = weight (view l.expr.now)

abbrev pub decreases-eval_above : goal.decreases-eval_above
decreases-eval_above l = weight_above l.depth (view l.expr.now)
