use Rattle.pst_trace_reader.proofs.OneReading.{readings_one}
use Rattle.pst_trace_reader.proofs.laws.readings_are_one.Goals as goal

pub returns : goal.returns
returns c = readings_one c.block_lines_are_one.ensures c.last_lines_are_one.ensures
