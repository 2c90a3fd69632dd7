use Rattle.std.proofs.Common.{◌≡◌, ◌≤◌, ◌-◌, length}
use Rattle.pst_square.specs.Squares.{Adds, IsOneOf}
use Rattle.pst_graph.specs.Uses.{IsApartAt}
use Rattle.pst_graph.specs.Runs.{AreBefore}
use Rattle.pst_graph.proofs.runs.add_runs.Given as goal

abbrev pub invariant-runs : goal.invariant-runs
invariant-runs l = record {
  sized : l.square.size ≡ l.initial.square.size;
  within : l.from ≤ length l.uses;
  before : AreBefore l.uses l.from;
  added : Adds l.initial.square l.square (IsOneOf (IsApartAt l.uses) l.from);
}

abbrev pub decreases-runs : goal.decreases-runs
decreases-runs l = length l.uses - l.from
