use Rattle.pst_expr.specs.Tree.{view}
use Rattle.pst_narrow.proofs.LogicLemmas.{truth_gives}
use Rattle.pst_narrow.proofs.truth.truth_span.Goals as goal

pub returns : goal.returns
returns c = truth_gives (view c.args.expr.now) c.args.bounds.now c.in-Some.span c.operand_of.result c.in-Some.ensures.sound c.operand_of.ensures
