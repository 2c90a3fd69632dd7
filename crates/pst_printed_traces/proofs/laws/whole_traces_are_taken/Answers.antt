use Rattle.pst_printed_traces.proofs.Taken.{whole_taken}
use Rattle.pst_printed_traces.proofs.laws.whole_traces_are_taken.Goals as goal

pub returns : goal.returns
returns c = whole_taken c.written_traces_are_read.ensures c.trace_verdicts_are_one.ensures
