use Rattle.std.specs.Prelude.{map, string_bytes}
use Rattle.pst_trace_verdict.proofs.Leaving.{GoesOn}
use Rattle.pst_trace_verdict.proofs.header.leaves_at.Given as goal

-- so many lines stand in front of the rest
abbrev pub invariant-loop-number : goal.invariant-loop-number
invariant-loop-number l = GoesOn l.text (map string_bytes l.lines) l.number l.rest
