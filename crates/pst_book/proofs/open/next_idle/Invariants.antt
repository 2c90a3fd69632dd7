use Rattle.std.proofs.Common.{◌<◌, ◌≤◌, ℕ}
use Rattle.pst_scen.specs.Trace.{IsHeld}
use Rattle.pst_book.proofs.open.next_idle.Given as goal

abbrev pub invariant-loop-lane : goal.invariant-loop-lane
invariant-loop-lane l = (x : ℕ) → l.from ≤ x → x < l.lane → IsHeld l.run.trace x
