use Rattle.pst_expr.specs.Tree.{view}
use Rattle.pst_narrow.proofs.DemandLemmas.{truth_both}
use Rattle.pst_narrow.proofs.logic.both_true.Goals as goal

pub returns-in-Some-truth_span : goal.returns-in-Some-truth_span
returns-in-Some-truth_span c = truth_both (view c.args.left.now) (view c.args.right.now) c.in-Some.left c.in-Some-truth_span.right c.args.bounds.now c.in-Some.ensures c.in-Some-truth_span.ensures
