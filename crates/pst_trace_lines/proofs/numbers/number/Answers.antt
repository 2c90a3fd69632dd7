use Rattle.std.proofs.Common.{arith}
use Rattle.pst_trace_lines.proofs.Cutting.{is_same}
use Rattle.pst_trace_lines.proofs.numbers.number.Goals as goal

pub returns-else-found : goal.returns-else-found
returns-else-found c = λ n is.
    let same = is_same c.args.text.now c.in_ok-found.found n c.in_ok-found.ensures.0 c.in_ok-found.ensures.1 is in
    let small = is.small in
    let large = c.if-found.false in
    omega (arith, same, small, large)
