use Rattle.std.proofs.Common.{◌≡◌, ◌≤◌, ◌*◌, sum, take}
use Rattle.pst_rng.proofs.weights.total.Given as goal

abbrev pub invariant-loop-weight : goal.invariant-loop-weight
invariant-loop-weight l = record {
  summed : l.total ≡ sum (take l.weight-index l.weights);
  small : l.total ≤ 4294967295 * l.weight-index;
}
