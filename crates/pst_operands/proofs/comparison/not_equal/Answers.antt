use Rattle.std.proofs.Common.{◌≡◌, ◌≢◌, not}
use Rattle.std.specs.Ordering.{int_eq}
use Rattle.pst_operands.proofs.Compared.{where_true, where_false, by_unequal, by_not_unequal}
use Rattle.pst_operands.proofs.comparison.not_equal.Goals as goal

pub returns-then-lacks : goal.returns-then-lacks
returns-then-lacks c =
    where_true (λ x y. not (int_eq x y)) ◌≢◌ c.args.spans c.unlike.result c.args.wanted (λ x y. by_unequal x y) (c.lacks.ensures c.if-lacks.true) c.unlike.ensures

pub returns-then-lacks-2 : goal.returns-then-lacks-2
returns-then-lacks-2 c =
    where_false (λ x y. not (int_eq x y)) ◌≡◌ c.args.spans c.alike.result c.args.wanted (λ x y. by_not_unequal x y) (c.lacks-else-lacks.ensures c.if-lacks-2.true) c.alike.ensures
