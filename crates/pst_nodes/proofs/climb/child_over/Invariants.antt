use Rattle.std.proofs.Common.{◌<◌, ℕ, length}
use Rattle.pst_scen.specs.Tree.{IsChild, StandsUnder}
use Rattle.pst_nodes.proofs.climb.child_over.Given as goal

abbrev pub decreases-parents : goal.decreases-parents
decreases-parents l = l.at

abbrev pub invariant-parents : goal.invariant-parents
invariant-parents l = record {
  within : l.at < length l.nodes;
  under : StandsUnder l.nodes l.at l.n;
  none : (child : ℕ) → IsChild l.nodes child l.top → StandsUnder l.nodes child l.n → StandsUnder l.nodes child l.at;
}
