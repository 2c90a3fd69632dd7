use Rattle.std.proofs.Common.{◌⊎◌, ◌<◌, ◌+◌, ℕ, length}
use Rattle.pst_graph.specs.Runs.{use_at, AreTogether, Precedes}
use Rattle.pst_graph.proofs.runs.ascend.Given as goal

abbrev pub invariant-loop-i : goal.invariant-loop-i
invariant-loop-i l = (i : ℕ) → i < l.i → i + 1 < length l.uses → AreTogether (use_at l.uses i) (use_at l.uses (i + 1)) ⊎ Precedes (use_at l.uses i) (use_at l.uses (i + 1))
