use Rattle.std.proofs.Common.{◌≡◌, ◌≢◌}
use Rattle.std.specs.Ordering.{int_eq}
use Rattle.pst_operands.proofs.Compared.{where_true, where_false, by_eq, by_not_eq}
use Rattle.pst_operands.proofs.comparison.equal.Goals as goal

pub returns-then-lacks : goal.returns-then-lacks
returns-then-lacks c =
    where_true (λ x y. int_eq x y) ◌≡◌ c.args.spans c.alike.result c.args.wanted (λ x y. by_eq x y) (c.lacks.ensures c.if-lacks.true) c.alike.ensures

pub returns-then-lacks-2 : goal.returns-then-lacks-2
returns-then-lacks-2 c =
    where_false (λ x y. int_eq x y) ◌≢◌ c.args.spans c.unlike.result c.args.wanted (λ x y. by_not_eq x y) (c.lacks-else-lacks.ensures c.if-lacks-2.true) c.unlike.ensures
