use Rattle.std.proofs.Common.{refl}
use Rattle.pst_trace_reader.proofs.Tops.{rest_ok, rest_end}
use Rattle.pst_trace_reader.proofs.read.read_rest.Goals as goal

pub returns-in-Ok : goal.returns-in-Ok
returns-in-Ok c = rest_ok c.args.actions c.args.inferred c.args.text.now _ c.read_body.new.reading _ c.in-Ok.ensures c.new.ensures.items c.in_ok-header.ensures refl refl refl

pub returns-in-Err : goal.returns-in-Err
returns-in-Err c = rest_end (record { format = c.args.format; passed = 0; header = c.in_ok-header.header; events = c.new.result }) c.read_body.new.reading c.args.actions c.args.inferred c.args.text.now c.in-Err.end c.in-Err.ensures
