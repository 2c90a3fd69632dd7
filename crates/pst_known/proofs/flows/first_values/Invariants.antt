use Rattle.std.proofs.Common.{◌≡◌, drop}
use Rattle.pst_legal.specs.Slots.{first_values}
use Rattle.pst_known.proofs.flows.first_values.Given as goal

abbrev pub invariant-loop-first : goal.invariant-loop-first
invariant-loop-first l = first_values (drop l.first-index l.firsts) l.pool ≡ first_values l.firsts l.pool
