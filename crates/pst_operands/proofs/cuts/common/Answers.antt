use Rattle.std.proofs.Common.{FitsSigned, w64, rules, arith}
use Rattle.std.proofs.lemmas.Int.{ints}
use Rattle.pst_operands.proofs.cuts.common.Goals as goal

pub returns : goal.returns
returns c x h k =
    let f0 : FitsSigned w64 c.args.right.low = search rules in
    let f1 : FitsSigned w64 c.args.right.high = search rules in
    c.at_most.ensures x (c.at_least.ensures x h (omega (arith, ints, c.from-2.ensures, k.0))) (omega (arith, ints, c.from.ensures, k.1))
