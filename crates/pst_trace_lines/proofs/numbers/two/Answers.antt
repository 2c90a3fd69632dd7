use Rattle.pst_trace_lines.proofs.Cutting.{two_parts}
use Rattle.pst_trace_lines.proofs.numbers.two.Goals as goal

pub returns-in_default-number : goal.returns-in_default-number
returns-in_default-number c = λ n k are. c.in_default-number.ensures n (two_parts c.args.text.now c.in-Some.first.now c.in-Some.second.now n k c.in-Some.ensures.0 c.in-Some.ensures.1 are).0

pub returns-in_default-number-2 : goal.returns-in_default-number-2
returns-in_default-number-2 c = λ n k are. c.in_default-number-2.ensures k (two_parts c.args.text.now c.in-Some.first.now c.in-Some.second.now n k c.in-Some.ensures.0 c.in-Some.ensures.1 are).1
