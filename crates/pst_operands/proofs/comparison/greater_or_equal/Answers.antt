use Rattle.std.proofs.Common.{◌≤ℤ◌, ◌<ℤ◌, int_le}
use Rattle.pst_operands.proofs.Compared.{where_true, where_false, by_le, by_not_le}
use Rattle.pst_operands.proofs.comparison.greater_or_equal.Goals as goal

pub returns-then-lacks : goal.returns-then-lacks
returns-then-lacks c =
    where_true (λ x y. int_le y x) (λ x y. y ≤ℤ x) c.args.spans c.not_ascending.result c.args.wanted (λ x y. by_le y x) (c.lacks.ensures c.if-lacks.true) c.not_ascending.ensures

pub returns-then-lacks-2 : goal.returns-then-lacks-2
returns-then-lacks-2 c =
    where_false (λ x y. int_le y x) ◌<ℤ◌ c.args.spans c.ascending.result c.args.wanted (λ x y. by_not_le y x) (c.lacks-else-lacks.ensures c.if-lacks-2.true) c.ascending.ensures
