use Rattle.pst_printed_traces.proofs.Taken.{begun_taken}
use Rattle.pst_printed_traces.proofs.laws.begun_traces_are_taken.Goals as goal

pub returns : goal.returns
returns c = begun_taken c.written_traces_are_read.ensures c.trace_verdicts_are_one.ensures c.prefixes_are_legal.ensures
