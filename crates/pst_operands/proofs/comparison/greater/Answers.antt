use Rattle.std.proofs.Common.{◌≤ℤ◌, ◌<ℤ◌, int_lt}
use Rattle.pst_operands.proofs.Compared.{where_true, where_false, by_lt, by_not_lt}
use Rattle.pst_operands.proofs.comparison.greater.Goals as goal

pub returns-then-lacks : goal.returns-then-lacks
returns-then-lacks c =
    where_true (λ x y. int_lt y x) (λ x y. y <ℤ x) c.args.spans c.descending.result c.args.wanted (λ x y. by_lt y x) (c.lacks.ensures c.if-lacks.true) c.descending.ensures

pub returns-then-lacks-2 : goal.returns-then-lacks-2
returns-then-lacks-2 c =
    where_false (λ x y. int_lt y x) ◌≤ℤ◌ c.args.spans c.not_descending.result c.args.wanted (λ x y. by_not_lt y x) (c.lacks-else-lacks.ensures c.if-lacks-2.true) c.not_descending.ensures
