use Rattle.pst_written_traces.proofs.Whole.{written_read}
use Rattle.pst_written_traces.proofs.laws.written_traces_are_read.Goals as goal

pub returns : goal.returns
returns c = written_read c.readings_are_one.ensures
