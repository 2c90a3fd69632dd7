use Rattle.pst_expr.specs.Tree.{view}
use Rattle.pst_narrow.proofs.DemandLemmas.{and_wanted, and_left, and_right}
use Rattle.pst_narrow.proofs.logic.and_demand.Goals as goal

pub returns-then-lacks : goal.returns-then-lacks
returns-then-lacks c =
    and_wanted (view c.args.left.now) (view c.args.right.now) c.args.wanted c.args.bounds.now c.both_true.result (c.lacks.ensures c.if-lacks.true) c.both_true.ensures

pub returns-then-is_surely_true : goal.returns-then-is_surely_true
returns-then-is_surely_true c =
    and_left (view c.args.left.now) (view c.args.right.now) c.args.wanted c.args.bounds.now (c.lacks-2.ensures c.if-not-lacks.false) (c.is_surely_true.ensures c.if-is_surely_true.true)

pub returns-then-is_surely_true-2 : goal.returns-then-is_surely_true-2
returns-then-is_surely_true-2 c =
    and_right (view c.args.left.now) (view c.args.right.now) c.args.wanted c.args.bounds.now c.left_true_alone.result (c.lacks-2.ensures c.if-not-lacks.false) (c.is_surely_true-2.ensures c.if-is_surely_true-2.true) (c.left_true_alone.ensures (view c.args.right.now))
