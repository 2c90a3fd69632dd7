use Rattle.std.proofs.Common.{arith}
use Rattle.pst_trace_lines.proofs.Cutting.{three_same}
use Rattle.pst_trace_lines.proofs.Lasts.{fault_three, three_fault}
use Rattle.pst_trace_lines.proofs.last.read_fault.Goals as goal

pub returns-then-lane-gt15 : goal.returns-then-lane-gt15
returns-then-lane-gt15 c = λ lane act call is.
    let same = three_same c.in_ok-rest.rest.now c.in_ok-lane.lane c.in_ok-lane.action c.in_ok-lane.call lane act call c.in_ok-lane.ensures (fault_three c.args.line.now c.in_ok-rest.rest.now lane act call c.in_ok-rest.ensures is) in
    let own = same.0 in
    let low = is.of_lane in
    let high = c.if-lane-gt15.true in
    omega (arith, own, low, high)

pub returns : goal.returns
returns c = three_fault c.args.line.now c.in_ok-rest.rest.now c.in_ok-lane.lane c.in_ok-lane.action c.in_ok-lane.call c.in_ok-rest.ensures c.if-lane-gt15.false c.in_ok-lane.ensures
