use Rattle.pst_trace_lines.proofs.Ends.{last_one}
use Rattle.pst_trace_lines.proofs.laws.last_lines_are_one.Goals as goal

pub returns : goal.returns
returns c = last_one
