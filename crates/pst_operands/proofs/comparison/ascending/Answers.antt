use Rattle.std.proofs.Common.{FitsSigned, w64, rules, arith}
use Rattle.std.proofs.lemmas.Int.{ints}
use Rattle.pst_operands.proofs.comparison.ascending.Goals as goal

pub returns : goal.returns
returns c x y h k r =
    let f0 : FitsSigned w64 c.args.spans.right.high = search rules in
    let f1 : FitsSigned w64 c.args.spans.left.low = search rules in
    (c.below.ensures x h (omega (arith, ints, c.from.ensures, k.1, r)), c.above.ensures y k (omega (arith, ints, c.from-2.ensures, h.0, r)))
