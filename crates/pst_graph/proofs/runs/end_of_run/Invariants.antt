use Rattle.std.proofs.Common.{◌≤◌, ◌<◌, ◌-◌, ℕ, length}
use Rattle.pst_graph.specs.Runs.{use_at, AreTogether}
use Rattle.pst_graph.proofs.runs.end_of_run.Given as goal

abbrev pub invariant-rest : goal.invariant-rest
invariant-rest l = record {
  more : l.from < l.to;
  within : l.to ≤ length l.uses;
  same : (i : ℕ) → l.from ≤ i → i < l.to → AreTogether (use_at l.uses l.from) (use_at l.uses i);
}

abbrev pub decreases-rest : goal.decreases-rest
decreases-rest l = length l.uses - l.to
