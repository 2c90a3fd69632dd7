use Rattle.std.proofs.Common.{◌≡◌, ◌+◌, sum, take, drop}
use Rattle.pst_rng.specs.Weights.{index_above}
use Rattle.pst_rng.proofs.weights.index_above.Given as goal

abbrev pub invariant-loop-index : goal.invariant-loop-index
invariant-loop-index l = record {
  summed : l.left + sum (take l.index l.weights) ≡ l.number;
  same : index_above l.number l.weights ≡ l.index + index_above l.left (drop l.index l.weights);
}
