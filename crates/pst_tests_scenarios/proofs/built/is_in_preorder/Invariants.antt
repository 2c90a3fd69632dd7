use Rattle.std.proofs.Common.{◌<◌, ◌+◌, ℕ, length}
use Rattle.pst_tests_scenarios.specs.Checked.{IsNextNode}
use Rattle.pst_tests_scenarios.proofs.built.is_in_preorder.Given as goal

abbrev pub invariant-loop-n : goal.invariant-loop-n
invariant-loop-n l = (k : ℕ) → k < l.n → k + 1 < length l.nodes → IsNextNode l.nodes k
