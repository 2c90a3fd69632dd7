-- How the nodes of a filled-in activity stand to each other.
-- That statements of an activity, a block and a repetition run one after another is the standard's
-- rule; join forms, and what they release, are this project's own.
use Rattle.std.specs.Prelude.{◌≡◌, ℕ, ◌<◌, List, Some, slice_get, count_by, take, IsBitSet, Bool, false}
use Rattle.std.specs.Prelude.{Option, None, nat_eq}
use Rattle.pst_scen.specs.declared.tree.Node.{Node}
use Rattle.pst_scen.specs.declared.tree.Fill.{Fill}
use Rattle.pst_scen.specs.declared.tree.Fill.TheVariants.{Compound, Leaf, Sequence, Parallel, Schedule, Joined, Select, Repeat, Turn, If, Match}

-- the node of that number is this one
abbrev pub IsNode : List Node → ℕ → Node → Type 0
IsNode nodes n node = slice_get nodes n ≡ Some node

-- one node stands directly in another
pub record IsChild (nodes : List Node) (child parent : ℕ) : Type 0 where
  pub node : Node
  pub is : IsNode nodes child node
  pub in_parent : node.parent ≡ Some parent

-- one node is another, or stands below it
pub data StandsUnder (nodes : List Node) (top : ℕ) : ℕ → Type 0 where
  AtTop : StandsUnder nodes top top
  Below : (n parent : ℕ) → StandsUnder nodes top parent → IsChild nodes n parent → StandsUnder nodes top n

-- the action's leaf stands under the node
pub record Contains-act (nodes : List Node) (top act : ℕ) : Type 0 where
  pub leaf : ℕ
  pub node : Node
  pub is : IsNode nodes leaf node
  pub of_act : node.fill ≡ Leaf act
  pub under : StandsUnder nodes top leaf

-- what stands directly in it runs one after another: the statements of an activity, a sequence or
-- a plain block, and the turns of a repetition
abbrev pub RunsInOrder : Fill → Type 0
RunsInOrder (Compound action instance fields) = Unit {0}
RunsInOrder Sequence = Unit {0}
RunsInOrder Repeat = Unit {0}
RunsInOrder (Leaf act) = ⊥
RunsInOrder Parallel = ⊥
RunsInOrder Schedule = ⊥
RunsInOrder (Joined parallel joined) = ⊥
RunsInOrder (Select branch) = ⊥
RunsInOrder (Turn index) = ⊥
RunsInOrder (If taken) = ⊥
RunsInOrder (Match arm) = ⊥

pub record IsSequence (nodes : List Node) (n : ℕ) : Type 0 where
  pub node : Node
  pub is : IsNode nodes n node
  pub in_order : RunsInOrder node.fill

-- the nearest sequence round a node
pub data IsNearestSequence (nodes : List Node) (top : ℕ) : ℕ → Type 0 where
  Directly : (n : ℕ) → IsChild nodes n top → IsSequence nodes top → IsNearestSequence nodes top n
  Further : (n parent : ℕ) → IsChild nodes n parent → (IsSequence nodes parent → ⊥) → IsNearestSequence nodes top parent → IsNearestSequence nodes top n

-- whether a node names this one as its parent
abbrev pub is_parent : ℕ → Option ℕ → Bool
is_parent parent None = false
is_parent parent (Some p) = nat_eq parent p

-- how many nodes stand directly in the parent before the node: its place among the branches
abbrev pub branch_of : List Node → ℕ → ℕ → ℕ
branch_of nodes parent n = count_by (λ node. is_parent parent node.parent) (take n nodes)

-- The action stands in a branch, of a block with a join form, that the block doesn't wait for, and
-- the sequence is the nearest one round the block.
pub record IsReleased (nodes : List Node) (sequence act : ℕ) : Type 0 where
  pub block : ℕ
  pub branch : ℕ
  pub node : Node
  pub parallel : Bool
  pub joined : ℕ
  pub is : IsNode nodes block node
  pub join : node.fill ≡ Joined parallel joined
  pub child : IsChild nodes branch block
  pub free : IsBitSet joined (branch_of nodes block branch) → ⊥
  pub inside : Contains-act nodes branch act
  pub nearest : IsNearestSequence nodes sequence block

-- In that sequence, one action stands in an earlier statement than the other.
pub record StandsEarlier (nodes : List Node) (sequence a b : ℕ) : Type 0 where
  pub is_sequence : IsSequence nodes sequence
  pub earlier : ℕ
  pub later : ℕ
  pub earlier_child : IsChild nodes earlier sequence
  pub later_child : IsChild nodes later sequence
  pub order : earlier < later
  pub a_inside : Contains-act nodes earlier a
  pub b_inside : Contains-act nodes later b
