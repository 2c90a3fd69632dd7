use Rattle.std.proofs.Common.{arith}
use Rattle.pst_trace_lines.proofs.Cutting.{wide, is_same}
use Rattle.pst_trace_lines.proofs.Pairing.{pair_parts}
use Rattle.pst_trace_lines.proofs.blocks.pair.Goals as goal

pub returns-in_default-number : goal.returns-in_default-number
returns-in_default-number c = λ act lane is. c.in_default-number.ensures act (pair_parts c.args.text.now c.in-Some.first.now c.in-Some.second.now act lane c.in-Some.ensures.0 c.in-Some.ensures.1 is).0

pub returns-in_default-number-2 : goal.returns-in_default-number-2
returns-in_default-number-2 c = λ act lane is. c.in_default-number-2.ensures lane (pair_parts c.args.text.now c.in-Some.first.now c.in-Some.second.now act lane c.in-Some.ensures.0 c.in-Some.ensures.1 is).1

pub returns-then-lane-gt15 : goal.returns-then-lane-gt15
returns-then-lane-gt15 c = λ act lane is.
    let parts = pair_parts c.args.text.now c.in-Some.first.now c.in-Some.second.now act lane c.in-Some.ensures.0 c.in-Some.ensures.1 is in
    let own = c.in-Some-number-2.ensures in
    let same = is_same c.in-Some.second.now c.in-Some-number-2.lane lane own.is (wide c.in-Some-number-2.lane own.small) parts.1 in
    let low = parts.2 in
    let high = c.if-lane-gt15.true in
    omega (arith, same, low, high)
