use Rattle.pst_expr.specs.Value.{is_false}
use Rattle.pst_operands.proofs.Compared.{true_of, zero_in, is_zero}
use Rattle.pst_operands.proofs.unary.not.Goals as goal

pub returns-then-lacks : goal.returns-then-lacks
returns-then-lacks c x z h l e =
    c.common.ensures x h (zero_in x (is_zero x (true_of (is_false x) z c.args.wanted l e (c.lacks.ensures c.if-lacks.true))))
