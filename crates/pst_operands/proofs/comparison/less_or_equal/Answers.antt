use Rattle.std.proofs.Common.{◌≤ℤ◌, ◌<ℤ◌, int_le}
use Rattle.pst_operands.proofs.Compared.{where_true, where_false, by_le, by_not_le}
use Rattle.pst_operands.proofs.comparison.less_or_equal.Goals as goal

pub returns-then-lacks : goal.returns-then-lacks
returns-then-lacks c =
    where_true (λ x y. int_le x y) ◌≤ℤ◌ c.args.spans c.not_descending.result c.args.wanted (λ x y. by_le x y) (c.lacks.ensures c.if-lacks.true) c.not_descending.ensures

pub returns-then-lacks-2 : goal.returns-then-lacks-2
returns-then-lacks-2 c =
    where_false (λ x y. int_le x y) (λ x y. y <ℤ x) c.args.spans c.descending.result c.args.wanted (λ x y. by_not_le x y) (c.lacks-else-lacks.ensures c.if-lacks-2.true) c.descending.ensures
