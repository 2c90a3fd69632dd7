use Rattle.std.proofs.Common.{arith}
use Rattle.pst_trace_lines.proofs.Cutting.{three_same}
use Rattle.pst_trace_lines.proofs.Lasts.{trap_three}
use Rattle.pst_trace_lines.proofs.last.read_trap.Goals as goal

pub returns-then-lane-gt15 : goal.returns-then-lane-gt15
returns-then-lane-gt15 c = λ lane act kind is.
    let same = three_same c.in_ok-rest.rest.now c.in_ok-lane.lane c.in_ok-lane.action c.in_ok-lane.kind lane act kind c.in_ok-lane.ensures (trap_three c.args.line.now c.in_ok-rest.rest.now lane act kind c.in_ok-rest.ensures is) in
    let own = same.0 in
    let low = is.of_lane in
    let high = c.if-lane-gt15.true in
    omega (arith, own, low, high)

pub returns-then-kind-lt1 : goal.returns-then-kind-lt1
returns-then-kind-lt1 c = λ lane act kind is.
    let same = three_same c.in_ok-rest.rest.now c.in_ok-lane.lane c.in_ok-lane.action c.in_ok-lane.kind lane act kind c.in_ok-lane.ensures (trap_three c.args.line.now c.in_ok-rest.rest.now lane act kind c.in_ok-rest.ensures is) in
    let own = same.2 in
    let low = is.least in
    let high = c.if-kind-lt1.true in
    omega (arith, own, low, high)

pub returns-then-kind-gt3 : goal.returns-then-kind-gt3
returns-then-kind-gt3 c = λ lane act kind is.
    let same = three_same c.in_ok-rest.rest.now c.in_ok-lane.lane c.in_ok-lane.action c.in_ok-lane.kind lane act kind c.in_ok-lane.ensures (trap_three c.args.line.now c.in_ok-rest.rest.now lane act kind c.in_ok-rest.ensures is) in
    let own = same.2 in
    let low = is.most in
    let high = c.if-kind-gt3.true in
    omega (arith, own, low, high)
