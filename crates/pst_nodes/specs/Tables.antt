-- What is known of the nodes of a filled-in activity by their numbers.
use Rattle.std.specs.Prelude.{◌≡◌, ◌≤◌, ◌<◌, ◌+◌, ℕ, List, Bool, true, false, length, get_or, take, count_by}
use Rattle.pst_scen.specs.declared.tree.Node.{Node}
use Rattle.pst_scen.specs.declared.tree.Fill.{Fill}
use Rattle.pst_scen.specs.declared.tree.Fill.TheVariants.{Compound, Leaf, Sequence, Parallel, Schedule, Joined, Select, Repeat, Turn, If, Match}
use Rattle.pst_scen.specs.Tree.{IsChild, StandsUnder}
use Rattle.pst_scen.specs.Laws.{IsPreorder}
use Rattle.pst_scen.specs.Scenarios.{AreInPreorder}
use Rattle.pst_nodes.specs.Over.{IsLeafOf, Over, IsAwaited}

abbrev pub is_leaf : Fill → Bool
is_leaf (Leaf act) = true
is_leaf (Compound action instance fields) = false
is_leaf Sequence = false
is_leaf Parallel = false
is_leaf Schedule = false
is_leaf (Joined parallel joined) = false
is_leaf (Select branch) = false
is_leaf Repeat = false
is_leaf (Turn index) = false
is_leaf (If taken) = false
is_leaf (Match arm) = false

-- how many leaves stand before the node
abbrev pub leaf_count : List Node → ℕ → ℕ
leaf_count nodes n = count_by (λ node. is_leaf node.fill) (take n nodes)

-- The nodes stand in preorder, and the leaves have their actions' numbers in that order.
pub record AreNodesNumbered (nodes : List Node) : Type 0 where
  pub preorder : AreInPreorder nodes
  pub parents : IsPreorder nodes
  pub leaves : (n act : ℕ) → IsLeafOf nodes act n → act ≡ leaf_count nodes n

-- it is the first node behind those under the top one
pub record IsEnd (nodes : List Node) (top end : ℕ) : Type 0 where
  pub under : (n : ℕ) → top ≤ n → n < end → StandsUnder nodes top n
  pub behind : (n : ℕ) → StandsUnder nodes top n → n < end

-- for each node the first one behind those under it
pub record AreEnds (nodes : List Node) (ends : List ℕ) : Type 0 where
  pub many : length ends ≡ length nodes
  pub each : (n : ℕ) → n < length nodes → IsEnd nodes n (get_or ends n 0)
  pub within : (n : ℕ) → n < length nodes → get_or ends n 0 ≤ length nodes

-- for each node, and for their end, how many leaves stand before
pub record AreCounts (nodes : List Node) (counts : List ℕ) : Type 0 where
  pub many : length counts ≡ length nodes + 1
  pub each : (n : ℕ) → n ≤ length nodes → get_or counts n 0 ≡ leaf_count nodes n

-- for each action of a leaf before that node its leaf
pub record AreLeaves (nodes : List Node) (leaves : List ℕ) (to : ℕ) : Type 0 where
  pub many : length leaves ≡ leaf_count nodes to
  pub each : (act : ℕ) → act < length leaves → IsLeafOf nodes act (get_or leaves act 0)

-- the action's leaf stands behind the node in the sequence of that, which awaits the leaf
pub record IsBehind (nodes : List Node) (leaf n act : ℕ) : Type 0 where
  pub other : ℕ
  pub of_act : IsLeafOf nodes act other
  pub awaited : IsAwaited nodes leaf other n

-- Each node's end is behind one that stands under it, and no earlier than those of the nodes directly in it, from the
-- given one on.
pub record AreEndsFrom (nodes : List Node) (ends : List ℕ) (from : ℕ) : Type 0 where
  pub many : length ends ≡ length nodes
  pub last : (n : ℕ) → n < length nodes → (last : ℕ) × (get_or ends n 0 ≡ last + 1) × StandsUnder nodes n last
  pub kept : (child parent : ℕ) → from ≤ child → IsChild nodes child parent → get_or ends child 0 ≤ get_or ends parent 0

-- The first action's leaf, or something over it, stands in a sequence that awaits it before the second's leaf.
pub record StandsBefore (nodes : List Node) (a b : ℕ) : Type 0 where
  pub leaf : ℕ
  pub of_act : IsLeafOf nodes a leaf
  pub over : Over nodes (λ n. IsBehind nodes leaf n b) leaf
