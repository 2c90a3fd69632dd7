use Rattle.std.proofs.Common.{length}
use Rattle.pst_trace_reader.proofs.Rests.{IsGoing}
use Rattle.pst_trace_reader.proofs.body.read_body.Given as goal

abbrev pub invariant-lines : goal.invariant-lines
invariant-lines l = IsGoing l.fn.reading l.reading l.text l.rest l.line

abbrev pub decreases-lines : goal.decreases-lines
decreases-lines l = length l.rest
