use Rattle.pst_expr.specs.Tree.{view}
use Rattle.pst_narrow.proofs.DemandLemmas.{implies_neither, implies_first, implies_last}
use Rattle.pst_narrow.proofs.logic.implies_demand.Goals as goal

pub returns-then-lacks : goal.returns-then-lacks
returns-then-lacks c =
    implies_neither (view c.args.left.now) (view c.args.right.now) c.args.wanted c.args.bounds.now c.left_true_alone.result (c.lacks.ensures c.if-lacks.true) (c.left_true_alone.ensures (view c.args.right.now))

pub returns-then-refused : goal.returns-then-refused
returns-then-refused c =
    implies_first (view c.args.left.now) (view c.args.right.now) c.args.wanted c.args.bounds.now (c.lacks-2.ensures c.if-not-lacks.false) (c.refused.ensures.sound c.if-refused.true)

pub returns-then-is_surely_true : goal.returns-then-is_surely_true
returns-then-is_surely_true c =
    implies_last (view c.args.left.now) (view c.args.right.now) c.args.wanted c.args.bounds.now c.both_true.result (c.lacks-2.ensures c.if-not-lacks.false) (c.is_surely_true.ensures c.if-is_surely_true.true) c.both_true.ensures
