use Rattle.std.proofs.Common.{FitsSigned, w64, rules, arith}
use Rattle.std.proofs.lemmas.Int.{ints}
use Rattle.pst_operands.proofs.comparison.descending.Goals as goal

pub returns : goal.returns
returns c x y h k r =
    let f0 : FitsSigned w64 c.args.spans.right.low = search rules in
    let f1 : FitsSigned w64 c.args.spans.left.high = search rules in
    (c.above.ensures x h (omega (arith, ints, c.from.ensures, k.0, r)), c.below.ensures y k (omega (arith, ints, c.from-2.ensures, h.1, r)))
