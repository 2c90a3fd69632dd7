-- Leaves, and what stands over them.
use Rattle.std.specs.Prelude.{◌≡◌, ◌≢◌, ◌<◌, ℕ, List, Bool, IsBitSet}
use Rattle.pst_scen.specs.declared.tree.Node.{Node}
use Rattle.pst_scen.specs.declared.tree.Fill.TheVariants.{Leaf, Joined}
use Rattle.pst_scen.specs.Tree.{IsNode, IsChild, StandsUnder, IsSequence, IsNearestSequence, branch_of}
use Rattle.pst_scen.specs.Plans.{IsParallel}

-- the node is the action's leaf
pub record IsLeafOf (nodes : List Node) (act n : ℕ) : Type 0 where
  pub node : Node
  pub is : IsNode nodes n node
  pub of_act : node.fill ≡ Leaf act

-- some node that is n or stands over it has the property
pub record Over (nodes : List Node) (P : ℕ → Type 0) (n : ℕ) : Type 0 where
  pub top : ℕ
  pub under : StandsUnder nodes top n
  pub has : P top

-- the block has a join form and doesn't wait for its branch of that number
pub record LeavesOut (nodes : List Node) (block branch : ℕ) : Type 0 where
  pub node : Node
  pub parallel : Bool
  pub joined : ℕ
  pub is : IsNode nodes block node
  pub join : node.fill ≡ Joined parallel joined
  pub free : IsBitSet joined branch → ⊥

-- The node is a branch that its block leaves out, and the sequence is the nearest one round the block.
pub record IsFree (nodes : List Node) (sequence branch : ℕ) : Type 0 where
  pub block : ℕ
  pub child : IsChild nodes branch block
  pub left : LeavesOut nodes block (branch_of nodes block branch)
  pub nearest : IsNearestSequence nodes sequence block

-- The node stands directly in a sequence, n stands in a later statement of it, and nothing over the
-- leaf is free in it.
pub record IsAwaited (nodes : List Node) (leaf n child : ℕ) : Type 0 where
  pub sequence : ℕ
  pub is_sequence : IsSequence nodes sequence
  pub is_child : IsChild nodes child sequence
  pub later : ℕ
  pub later_child : IsChild nodes later sequence
  pub order : child < later
  pub under : StandsUnder nodes later n
  pub kept : Over nodes (IsFree nodes sequence) leaf → ⊥

pub record IsParallelBlock (nodes : List Node) (n : ℕ) : Type 0 where
  pub node : Node
  pub is : IsNode nodes n node
  pub parallel : IsParallel node.fill

-- the node is a branch of a parallel block
pub record IsBranch (nodes : List Node) (branch : ℕ) : Type 0 where
  pub block : ℕ
  pub is_block : IsParallelBlock nodes block
  pub is_child : IsChild nodes branch block

-- the node is a branch of a parallel block, and n stands in another branch of it
pub record IsBranchBeside (nodes : List Node) (n branch : ℕ) : Type 0 where
  pub block : ℕ
  pub is_block : IsParallelBlock nodes block
  pub is_child : IsChild nodes branch block
  pub other : ℕ
  pub other_child : IsChild nodes other block
  pub different : branch ≢ other
  pub under : StandsUnder nodes other n
