use Rattle.std.proofs.Common.{◌≡◌, drop}
use Rattle.pst_scen.specs.Trace.{last_from, last_writer}
use Rattle.pst_check.proofs.past.reads_last_writer.Given as goal

abbrev pub invariant-loop-i : goal.invariant-loop-i
invariant-loop-i l = last_from l.scenario l.pool l.last (drop l.i l.past) ≡ last_writer l.scenario l.pool l.past
