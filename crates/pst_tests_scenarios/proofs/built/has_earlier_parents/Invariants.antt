use Rattle.std.proofs.Common.{◌≡◌, ◌<◌, ℕ, slice_get, Some}
use Rattle.pst_scen.specs.declared.tree.Node.{Node}
use Rattle.pst_tests_scenarios.specs.Checked.{IsParentEarlier}
use Rattle.pst_tests_scenarios.proofs.built.has_earlier_parents.Given as goal

abbrev pub invariant-loop-n : goal.invariant-loop-n
invariant-loop-n l = (k : ℕ) (y : Node) → k < l.n → slice_get l.nodes k ≡ Some y → IsParentEarlier k y.parent
