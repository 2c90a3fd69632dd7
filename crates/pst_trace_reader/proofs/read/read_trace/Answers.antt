use Rattle.pst_trace_reader.proofs.Cut.{none_found}
use Rattle.pst_trace_reader.proofs.Tops.{first_missing, first_bad}
use Rattle.pst_trace_reader.proofs.read.read_trace.Goals as goal

pub returns-in_default : goal.returns-in_default
returns-in_default c = first_missing c.args.text.now (none_found c.args.text.now c.in_default.ensures)

pub returns-in_default-format_of : goal.returns-in_default-format_of
returns-in_default-format_of c = first_bad c.args.text.now c.in-Some.first.now c.in-Some.rest.now c.in-Some.ensures.0 c.in-Some.ensures.1 c.in_default-format_of.ensures

pub returns : goal.returns
returns c = c.read_counted.ensures c.args.text.now c.in-Some.first.now c.in-Some.ensures.0 c.in-Some.ensures.1 c.in-Some-format_of.ensures
