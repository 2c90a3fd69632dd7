use Rattle.std.proofs.Common.{◌≡◌, ◌++◌, drop, map}
use Rattle.pst_model.specs.ModelView.{view_model}
use Rattle.pst_open_ends.specs.Changes.{opened}
use Rattle.pst_open_ends.proofs.acts.open_leaves.Given as goal

abbrev pub invariant-loop-leaf : goal.invariant-loop-leaf
invariant-loop-leaf l = l.acts.items ++ map (opened (view_model l.model)) (drop l.leaf-index l.leaves) ≡ map (opened (view_model l.model)) l.leaves
