use Rattle.std.proofs.Common.{ℕ, ◌<◌}
use Rattle.pst_evaluate.specs.Settled.{IsSettled}
use Rattle.pst_evaluate.proofs.settled.are_settled.Given as goal

abbrev pub invariant-loop-at : goal.invariant-loop-at
invariant-loop-at l = (n : ℕ) → n < l.at → IsSettled l.sources l.values n
