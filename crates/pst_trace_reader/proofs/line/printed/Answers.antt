use Rattle.pst_trace_reader.proofs.Printed.{printed_text}
use Rattle.pst_trace_reader.proofs.line.printed.Goals as goal

pub unreachable-requires : goal.unreachable-requires
unreachable-requires c = c.in-Err.ensures.cases.0 (printed_text c.args.line.now c.requires)
