use Rattle.pst_expr.specs.Tree.{view}
use Rattle.pst_narrow.proofs.DemandLemmas.{or_neither, or_first, or_last}
use Rattle.pst_narrow.proofs.logic.or_demand.Goals as goal

pub returns-then-lacks : goal.returns-then-lacks
returns-then-lacks c =
    or_neither (view c.args.left.now) (view c.args.right.now) c.args.wanted c.args.bounds.now (c.lacks.ensures c.if-lacks.true)

pub returns-then-refused : goal.returns-then-refused
returns-then-refused c =
    or_first (view c.args.left.now) (view c.args.right.now) c.args.wanted c.args.bounds.now c.left_true.result (c.lacks-2.ensures c.if-not-lacks.false) (c.refused.ensures.sound c.if-refused.true) (c.left_true.ensures (view c.args.right.now))

pub returns-then-refused-2 : goal.returns-then-refused-2
returns-then-refused-2 c =
    or_last (view c.args.left.now) (view c.args.right.now) c.args.wanted c.args.bounds.now c.right_true_alone.result (c.lacks-2.ensures c.if-not-lacks.false) (c.refused-2.ensures.sound c.if-refused-2.true) (c.right_true_alone.ensures (view c.args.left.now))
