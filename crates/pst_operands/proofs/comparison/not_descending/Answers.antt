use Rattle.std.proofs.Common.{FitsSigned, w64, rules, arith}
use Rattle.std.proofs.lemmas.Int.{ints}
use Rattle.pst_operands.proofs.comparison.not_descending.Goals as goal

pub returns : goal.returns
returns c x y h k r =
    let f0 : FitsSigned w64 c.args.spans.right.high = search rules in
    let f1 : FitsSigned w64 c.args.spans.left.low = search rules in
    (c.at_most.ensures x h (omega (arith, ints, c.from.ensures, k.1, r)), c.at_least.ensures y k (omega (arith, ints, c.from-2.ensures, h.0, r)))
