use Rattle.std.proofs.Common.{◌≡◌, pos, subst}
use Rattle.pst_expr.specs.Spans.{IsInSpan}
use Rattle.pst_operands.proofs.Factors.{zero_factor}
use Rattle.pst_operands.proofs.product.factor.Goals as goal

pub returns : goal.returns
returns c x y z h k l e =
    let some : z ≡ pos 0 → ⊥ = λ is. c.lacks.ensures c.if-not-lacks.false (subst (λ v. IsInSpan v c.args.wanted) is l) in
    c.other_than.ensures x (c.not_farther.ensures x y z (c.by_signed-cut.ensures x y z h k l e) l e some) (λ is. some (zero_factor x y z e is))
