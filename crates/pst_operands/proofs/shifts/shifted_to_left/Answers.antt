use Rattle.std.proofs.Common.{pos, ◌^◌, subst}
use Rattle.pst_expr.specs.Spans.{IsInSpan}
use Rattle.pst_operands.proofs.Shifted.{left_counted}
use Rattle.pst_operands.proofs.shifts.shifted_to_left.Goals as goal

pub returns-in-Some : goal.returns-in-Some
returns-in-Some c x y z h k l e =
    let n = left_counted x y z e in
    c.by_signed.ensures x (pos (2 ^ n.count)) z h (c.in-Some.ensures n.count (subst (λ v. IsInSpan v c.args.counts) n.is k)) l n.gives
