-- The statement of a node, found from the node up by places that are told.
use Rattle.std.specs.Prelude.{ℕ, zero, suc, List, Option, None, slice_get}
use Rattle.std.specs.Option.{option_and_then}
use Rattle.pst_model.specs.ModelTree.{ModelTree}
use Rattle.pst_scen.specs.declared.tree.Node.{Node}
use Rattle.pst_scen.specs.declared.tree.Fill.{Fill}
use Rattle.pst_scen.specs.declared.tree.Fill.TheVariants as fill
use Rattle.pst_slots.specs.Stated.{Stated, parent_of, at_place, part_at, repeated_in}

-- `place` gives the place of a node in its parent
module _ (m : ModelTree) (nodes : List Node) (place : ℕ → ℕ → Option ℕ) where
  -- the statement of a node that stands directly in another one with this fill; `stated` gives those of the nodes above
  abbrev pub below_by : (ℕ → Option Stated) → ℕ → ℕ → Fill → Option Stated
  below_by stated n parent (fill.Compound action instance fields) = option_and_then (at_place m parent action) (place n parent)
  below_by stated n parent (fill.Turn index) = option_and_then (repeated_in index) (option_and_then stated (parent_of nodes parent))
  below_by stated n parent other = option_and_then (λ above. option_and_then (part_at other above) (place n parent)) (stated parent)

  abbrev pub below_node_by : (ℕ → Option Stated) → ℕ → ℕ → Option Stated
  below_node_by stated n parent = option_and_then (λ node. below_by stated n parent node.fill) (slice_get nodes parent)

  -- with at most so many nodes on the way up
  abbrev pub stated_by : ℕ → ℕ → Option Stated
  stated_by zero n = None
  stated_by (suc levels) n = option_and_then (below_node_by (stated_by levels) n) (parent_of nodes n)
