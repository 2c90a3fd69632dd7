use Rattle.std.proofs.Common.{◌<◌, ℕ}
use Rattle.pst_square.specs.Walks.{IsFinished}
use Rattle.pst_square.proofs.walk.are_finished.Given as goal

abbrev pub invariant-loop-a : goal.invariant-loop-a
invariant-loop-a l = (b : ℕ) → b < l.a → IsFinished l.stages b
