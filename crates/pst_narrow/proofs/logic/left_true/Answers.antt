use Rattle.pst_expr.specs.Tree.{view}
use Rattle.pst_narrow.proofs.DemandLemmas.{truth_left}
use Rattle.pst_narrow.proofs.logic.left_true.Goals as goal

pub returns-in-Some : goal.returns-in-Some
returns-in-Some c q = truth_left (view c.args.left.now) q c.in-Some.span c.args.bounds.now c.in-Some.ensures
