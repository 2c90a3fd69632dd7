use Rattle.std.proofs.Common.{◌≡◌, ◌<◌, ℕ, length, get_or}
use Rattle.pst_refusals.specs.Counted.{AreCounted, IsPlace}
use Rattle.pst_refusals.proofs.places.place_nodes.Given as goal

abbrev pub invariant-loop-n : goal.invariant-loop-n
invariant-loop-n l = record {
  counted : AreCounted l.nodes l.n l.counts.items;
  many : length l.places.items ≡ length l.nodes;
  each : (k : ℕ) → k < l.n → IsPlace l.nodes k (get_or l.places.items k 0);
}
