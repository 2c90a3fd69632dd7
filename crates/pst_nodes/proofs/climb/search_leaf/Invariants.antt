use Rattle.std.proofs.Common.{◌<◌, ℕ}
use Rattle.pst_nodes.specs.Over.{IsLeafOf}
use Rattle.pst_nodes.proofs.climb.search_leaf.Given as goal

abbrev pub invariant-loop-n : goal.invariant-loop-n
invariant-loop-n l = (n : ℕ) → n < l.n → IsLeafOf l.nodes l.act n → ⊥
