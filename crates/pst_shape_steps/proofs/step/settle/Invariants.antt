use Rattle.std.proofs.Common.{length}
use Rattle.pst_model.specs.ModelTree.{ModelTree}
use Rattle.pst_model.specs.ModelView.{view_model}
use Rattle.pst_shape_steps.specs.declared.pending.At.{At}
use Rattle.pst_shape_parts.specs.declared.grown.Grown.{Grown}
use Rattle.pst_shape_parts.specs.Trees.{tree_of, IsGrown, Extends}
use Rattle.pst_shape_steps.specs.Pending.{SameReading, IsOpen, weight}
use Rattle.pst_shape_steps.proofs.step.settle.Given as goal

-- what is read from here is what is read from the beginning
pub record Same (m : ModelTree) (from to : At) (old new : Grown) : Type 0 where
  pub reads : SameReading m from (tree_of old) to (tree_of new)
  pub opens : IsOpen to (tree_of new)
  pub grows : Extends (tree_of old) (tree_of new)
  pub grown : IsGrown (tree_of new)

abbrev pub invariant-loop-at : goal.invariant-loop-at
invariant-loop-at l = Same (view_model l.model) l.fn.at l.at l.fn.grown l.grown

abbrev pub decreases-loop-at : goal.decreases-loop-at
decreases-loop-at l = weight l.at (length l.grown.nodes.items)
