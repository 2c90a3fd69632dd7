use Rattle.pst_expr.specs.Tree.{view}
use Rattle.pst_narrow.proofs.DemandLemmas.{truth_last}
use Rattle.pst_narrow.proofs.logic.right_true_alone.Goals as goal

pub returns-in-Some : goal.returns-in-Some
returns-in-Some c p = truth_last p (view c.args.right.now) c.in-Some.span c.args.bounds.now c.in-Some.ensures
