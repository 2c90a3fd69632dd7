use Rattle.std.proofs.Common.{◌<◌, ℕ}
use Rattle.pst_scen.specs.Trace.{Ended}
use Rattle.pst_check.proofs.checking.all_ended.Given as goal

abbrev pub invariant-loop-a : goal.invariant-loop-a
invariant-loop-a l = (a : ℕ) → a < l.a → Ended l.past a
