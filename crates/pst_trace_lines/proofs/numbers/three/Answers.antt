use Rattle.pst_trace_lines.proofs.Cutting.{three_parts}
use Rattle.pst_trace_lines.proofs.numbers.three.Goals as goal

pub returns-in_default-number : goal.returns-in_default-number
returns-in_default-number c = λ n k l are. c.in_default-number.ensures n (three_parts c.args.text.now c.in-Some.first.now c.in-Some.rest.now n k l c.in-Some.ensures.0 c.in-Some.ensures.1 are).0

pub returns-in_default-two : goal.returns-in_default-two
returns-in_default-two c = λ n k l are. c.in_default-two.ensures k l (three_parts c.args.text.now c.in-Some.first.now c.in-Some.rest.now n k l c.in-Some.ensures.0 c.in-Some.ensures.1 are).1
