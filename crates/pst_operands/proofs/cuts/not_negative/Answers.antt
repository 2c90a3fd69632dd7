use Rattle.std.proofs.Common.{FitsSigned, w64, rules, arith}
use Rattle.std.proofs.lemmas.Int.{ints, clamps}
use Rattle.pst_operands.proofs.cuts.not_negative.Goals as goal

pub returns-clause-low : goal.returns-clause-low
returns-clause-low c =
    let f : FitsSigned w64 c.args.span.low = search rules in
    let g : FitsSigned w64 c.max.result = search rules in
    omega (arith, ints, clamps, c.max.ensures.value)

pub returns-clause-kept : goal.returns-clause-kept
returns-clause-kept c x h k =
    let f : FitsSigned w64 c.args.span.low = search rules in
    let g : FitsSigned w64 c.max.result = search rules in
    let f1 : FitsSigned w64 c.args.span.high = search rules in
    (omega (arith, ints, clamps, c.max.ensures.value, h.0, k), omega (arith, ints, h.1))
