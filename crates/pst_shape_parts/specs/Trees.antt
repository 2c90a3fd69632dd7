-- Filled-in activities as they grow in the program, and the scenarios that they stand for.
use Rattle.std.specs.Prelude.{◌≡◌, ℕ, suc, ◌+◌, ◌-◌, ◌<◌, ◌≤◌, ℤ, List, [], ◌∷◌, ◌++◌, map, length, take, drop, Bool, ◌&&◌, nat_le, Option, Some, None, slice_get}
use Rattle.pst_model.specs.ModelTree.{ModelTree}
use Rattle.pst_scen.specs.declared.tree.Node.{Node}
use Rattle.pst_scen.specs.declared.tree.Fill.{Fill}
use Rattle.pst_scen.specs.declared.tree.Fill.TheVariants as fill
use Rattle.pst_scen.specs.declared.act.Act.{Act}
use Rattle.pst_scen.specs.declared.scenario.Scenario.{Scenario}
use Rattle.pst_legal.specs.Growing.{Look, Inner, Leaf, open_act, most_nodes, most_acts}
use Rattle.pst_legal.specs.Reading.{with_value, node_with_value}
use Rattle.pst_shape_parts.specs.declared.grown.Grown.{Grown}

-- the nodes, and the leaves in the order of their nodes
pub record Tree : Type 0 where
  pub nodes : List Node
  pub leaves : List Act

abbrev pub tree_of : Grown → Tree
tree_of g = record { nodes = g.nodes.items; leaves = g.leaves.items }

-- an action of which only its type, its instance and its node are told
abbrev pub bare : Act → Act
bare act = record { action = act.action; instance = act.instance; node = act.node; fields = []; references = []; claims = [] }

-- the action as the definitions have it: its references are open
abbrev pub opened : ModelTree → Act → Act
opened m act = open_act m act.action act.instance act.node

-- the scenario so far, at a level
abbrev pub scenario_of : ModelTree → ℕ → Tree → Scenario
scenario_of m level t = record { level = level; nodes = t.nodes; actions = map (opened m) t.leaves; firsts = [] }

-- one more node in a parent
abbrev pub grown_by : Tree → Option ℕ → Look → Tree
grown_by t parent (Inner fill) = record { nodes = t.nodes ++ record { parent = parent; fill = fill } ∷ []; leaves = t.leaves }
grown_by t parent (Leaf action instance) = record {
  nodes = t.nodes ++ record { parent = parent; fill = fill.Leaf (length t.leaves) } ∷ [];
  leaves = t.leaves ++ record { action = action; instance = instance; node = Some (length t.nodes); fields = []; references = []; claims = [] } ∷ [];
}

abbrev pub is_small : Tree → Bool
is_small t = nat_le (length t.nodes) most_nodes && nat_le (length t.leaves) most_acts

-- it is within the limits, and its leaves tell no more than they should
pub record IsGrown (t : Tree) : Type 0 where
  pub few_nodes : length t.nodes ≤ 65536
  pub few_acts : length t.leaves ≤ 16384
  pub are_bare : map bare t.leaves ≡ t.leaves

-- only more nodes and leaves
pub record Extends (t u : Tree) : Type 0 where
  pub nodes : (more : List Node) × (u.nodes ≡ t.nodes ++ more)
  pub leaves : (more : List Act) × (u.leaves ≡ t.leaves ++ more)

-- the first nodes and leaves
abbrev pub cut_to : ℕ → ℕ → Tree → Tree
cut_to nodes leaves t = record { nodes = take nodes t.nodes; leaves = take leaves t.leaves }

-- the action of that node has one more value
abbrev pub put : Tree → ℕ → ℤ → Tree
put t n v = record { nodes = take n t.nodes ++ (node_with_value v (slice_get t.nodes n) ++ drop (suc n) t.nodes); leaves = t.leaves }

abbrev pub but_last : List ℤ → List ℤ
but_last xs = take (length xs - 1) xs

-- the last of the values of a compound action's fields is gone
abbrev pub without_value : Fill → Fill
without_value (fill.Compound action instance fields) = fill.Compound action instance (but_last fields)
without_value other = other

abbrev pub node_without_value : Option Node → List Node
node_without_value None = []
node_without_value (Some node) = record node { fill = without_value node.fill } ∷ []

-- the action of that node has one value less
abbrev pub taken_back : Tree → ℕ → Tree
taken_back t n = record { nodes = take n t.nodes ++ (node_without_value (slice_get t.nodes n) ++ drop (suc n) t.nodes); leaves = t.leaves }

abbrev pub values_of : Fill → List ℤ
values_of (fill.Compound action instance fields) = fields
values_of other = []

abbrev pub values_at : Option Node → List ℤ
values_at None = []
values_at (Some node) = values_of node.fill

-- the values of the action of a node
abbrev pub fields_in : Tree → ℕ → List ℤ
fields_in t n = values_at (slice_get t.nodes n)
