use Rattle.std.proofs.Common.{FitsSigned, w64, rules, arith}
use Rattle.std.proofs.lemmas.Int.{ints, clamps}
use Rattle.pst_operands.proofs.cuts.not_positive.Goals as goal

pub returns-clause-high : goal.returns-clause-high
returns-clause-high c =
    let f : FitsSigned w64 c.args.span.high = search rules in
    let g : FitsSigned w64 c.min.result = search rules in
    omega (arith, ints, clamps, c.min.ensures.value)

pub returns-clause-kept : goal.returns-clause-kept
returns-clause-kept c x h k =
    let f : FitsSigned w64 c.args.span.high = search rules in
    let g : FitsSigned w64 c.min.result = search rules in
    let f1 : FitsSigned w64 c.args.span.low = search rules in
    (omega (arith, ints, h.0), omega (arith, ints, clamps, c.min.ensures.value, h.1, k))
