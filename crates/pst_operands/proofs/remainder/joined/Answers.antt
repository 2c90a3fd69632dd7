use Rattle.std.proofs.Common.{FitsSigned, w64, rules, arith}
use Rattle.std.proofs.lemmas.Int.{ints, clamps}
use Rattle.pst_operands.proofs.remainder.joined.Goals as goal

pub returns-then-left-clause-left : goal.returns-then-left-clause-left
returns-then-left-clause-left c x h =
    let f : FitsSigned w64 c.args.left.low = search rules in
    let g : FitsSigned w64 c.args.left.high = search rules in
    absurd (omega (arith, ints, c.if-left.true, h.0, h.1))

pub returns-then-right-clause-right : goal.returns-then-right-clause-right
returns-then-right-clause-right c x h =
    let f : FitsSigned w64 c.args.right.low = search rules in
    let g : FitsSigned w64 c.args.right.high = search rules in
    absurd (omega (arith, ints, c.if-right.true, h.0, h.1))

pub returns-clause-left : goal.returns-clause-left
returns-clause-left c x h =
    let f0 : FitsSigned w64 c.args.left.low = search rules in
    let f1 : FitsSigned w64 c.args.left.high = search rules in
    let f2 : FitsSigned w64 c.args.right.low = search rules in
    let f3 : FitsSigned w64 c.args.right.high = search rules in
    let g0 : FitsSigned w64 c.min.result = search rules in
    let g1 : FitsSigned w64 c.max.result = search rules in
    (omega (arith, ints, clamps, c.min.ensures.value, h.0), omega (arith, ints, clamps, c.max.ensures.value, h.1))

pub returns-clause-right : goal.returns-clause-right
returns-clause-right c x h =
    let f0 : FitsSigned w64 c.args.left.low = search rules in
    let f1 : FitsSigned w64 c.args.left.high = search rules in
    let f2 : FitsSigned w64 c.args.right.low = search rules in
    let f3 : FitsSigned w64 c.args.right.high = search rules in
    let g0 : FitsSigned w64 c.min.result = search rules in
    let g1 : FitsSigned w64 c.max.result = search rules in
    (omega (arith, ints, clamps, c.min.ensures.value, h.0), omega (arith, ints, clamps, c.max.ensures.value, h.1))
