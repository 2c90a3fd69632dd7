use Rattle.pst_trace_verdict.proofs.Blocks.{read_blocks}
use Rattle.pst_trace_verdict.proofs.laws.read_events_are_blocks.Goals as goal

pub returns : goal.returns
returns c = read_blocks
