use Rattle.pst_trace_lines.proofs.Pairing.{block_one}
use Rattle.pst_trace_lines.proofs.laws.block_lines_are_one.Goals as goal

pub returns : goal.returns
returns c = block_one
