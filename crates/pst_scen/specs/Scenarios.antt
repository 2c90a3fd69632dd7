-- What a scenario is: nodes in preorder, actions, links and first objects that belong together.
use Rattle.std.specs.Prelude.{◌≡◌, ◌↔◌, ℕ, suc, ◌<◌, ◌^◌, List, [], ◌∷◌, ◌++◌, ◌⊎◌, map, length, AllPairs, Contains, Option, Some, None, slice_get, flat_map, replicate}
use Rattle.std.specs.List.{enumerate_from, range_with_len}
use Rattle.std.specs.Option.{option_and_then}
use Rattle.pst_scen.specs.declared.tree.Node.{Node}
use Rattle.pst_scen.specs.declared.tree.Fill.{Fill}
use Rattle.pst_scen.specs.declared.tree.Fill.TheVariants as fill
use Rattle.pst_scen.specs.declared.act.Act.{Act}
use Rattle.pst_scen.specs.declared.act.Filled.{Filled}
use Rattle.pst_scen.specs.declared.act.Flow.{Flow}
use Rattle.pst_scen.specs.declared.act.Flow.TheVariants.{BufferIn, BufferOut, StreamIn, StreamOut, StateIn, StateOut}
use Rattle.pst_scen.specs.declared.act.Link.{Link}
use Rattle.pst_scen.specs.declared.act.Link.TheVariants as link
use Rattle.pst_scen.specs.declared.scenario.Scenario.{Scenario}
use Rattle.pst_scen.specs.Tree.{StandsUnder}
use Rattle.pst_scen.specs.Conflicts.{Uses}

-- the reference of that number of the action
abbrev pub reference_at : List Act → ℕ → ℕ → Option Filled
reference_at acts act reference = option_and_then (λ x. slice_get x.references reference) (slice_get acts act)

-- ---- nodes

-- the first node has no parent; each other one stands directly in the node before it, or in one that contains that
pub record AreInPreorder (nodes : List Node) : Type 0 where
  pub root : (node : Node) → slice_get nodes 0 ≡ Some node → node.parent ≡ None
  pub below : (n : ℕ) (node : Node) → slice_get nodes (suc n) ≡ Some node → (parent : ℕ) × (node.parent ≡ Some parent) × StandsUnder nodes parent n

-- ---- leaves and inferred actions

-- the action of a leaf, with the number of the node
abbrev pub leaf_of : ℕ → Fill → List (ℕ × ℕ)
leaf_of n (fill.Leaf act) = (act, n) ∷ []
leaf_of n (fill.Compound action instance fields) = []
leaf_of n fill.Sequence = []
leaf_of n fill.Parallel = []
leaf_of n fill.Schedule = []
leaf_of n (fill.Joined parallel joined) = []
leaf_of n (fill.Select branch) = []
leaf_of n fill.Repeat = []
leaf_of n (fill.Turn index) = []
leaf_of n (fill.If taken) = []
leaf_of n (fill.Match arm) = []

-- the actions of the leaves, each with its node, in preorder
abbrev pub leaves_of : List Node → List (ℕ × ℕ)
leaves_of nodes = flat_map (λ e. leaf_of e.0 e.1.fill) (enumerate_from 0 nodes)

-- the leaves' actions stand first, in the order of their nodes, and then the inferred ones, which have no node
pub record HasLeavesFirst (s : Scenario) : Type 0 where
  pub numbers : map (λ e. e.0) (leaves_of s.nodes) ≡ range_with_len 0 (length (leaves_of s.nodes))
  pub nodes : map (λ act. act.node) s.actions ≡ map (λ e. Some e.1) (leaves_of s.nodes) ++ replicate s.level None

-- ---- links

-- what a reference of that kind may be linked to
abbrev pub IsLinkOf : Flow → Link → Type 0
IsLinkOf BufferIn link.Nothing = ⊥
IsLinkOf BufferIn link.Initial = ⊥
IsLinkOf BufferIn (link.Act b q) = Unit {0}
IsLinkOf BufferOut link.Nothing = Unit {0}
IsLinkOf BufferOut link.Initial = ⊥
IsLinkOf BufferOut (link.Act b q) = ⊥
IsLinkOf StreamIn link.Nothing = ⊥
IsLinkOf StreamIn link.Initial = ⊥
IsLinkOf StreamIn (link.Act b q) = Unit {0}
IsLinkOf StreamOut link.Nothing = ⊥
IsLinkOf StreamOut link.Initial = ⊥
IsLinkOf StreamOut (link.Act b q) = Unit {0}
IsLinkOf StateIn link.Nothing = ⊥
IsLinkOf StateIn link.Initial = Unit {0}
IsLinkOf StateIn (link.Act b q) = Unit {0}
IsLinkOf StateOut link.Nothing = ⊥
IsLinkOf StateOut link.Initial = Unit {0}
IsLinkOf StateOut (link.Act b q) = Unit {0}

abbrev pub IsStream : Flow → Type 0
IsStream flow = (flow ≡ StreamIn) ⊎ (flow ≡ StreamOut)

-- a link that names a reference of an action names one that there is, and the ends of a stream name each other
pub record IsLinked (acts : List Act) (a r : ℕ) (filled : Filled) : Type 0 where
  pub kind : IsLinkOf filled.flow filled.link
  pub there : (b q : ℕ) → filled.link ≡ link.Act b q → (other : Filled) × (reference_at acts b q ≡ Some other)
  pub back : (b q : ℕ) (other : Filled) → IsStream filled.flow → filled.link ≡ link.Act b q → reference_at acts b q ≡ Some other → other.link ≡ link.Act a r

abbrev pub AreLinked : List Act → Type 0
AreLinked acts = (a r : ℕ) (filled : Filled) → reference_at acts a r ≡ Some filled → IsLinked acts a r filled

-- ---- first objects

-- one first object for each state pool that an action uses, in the order of the pools
pub record HasFirsts (s : Scenario) : Type 0 where
  pub ascending : AllPairs ◌<◌ (map (λ first. first.pool) s.firsts)
  pub used : (pool : ℕ) → Contains (map (λ first. first.pool) s.firsts) pool ↔ ((a : ℕ) × Uses s a pool)

-- ---- scenarios

pub record IsScenario (s : Scenario) : Type 0 where
  pub nodes : AreInPreorder s.nodes
  pub leaves : HasLeavesFirst s
  pub links : AreLinked s.actions
  pub firsts : HasFirsts s

-- few enough actions and nodes that their numbers have 31 bits
pub record IsSmall (s : Scenario) : Type 0 where
  pub acts : length s.actions < 2 ^ 31
  pub nodes : length s.nodes < 2 ^ 31

-- What each call on a scenario asks for: its numbers have 31 bits, each node's parent stands before it, a leaf and its action
-- name each other, and a link that names a reference of an action names one that there is.
pub record IsWellFormed (s : Scenario) : Type 0 where
  pub small : IsSmall s
  pub parents : (n parent : ℕ) (node : Node) → slice_get s.nodes n ≡ Some node → node.parent ≡ Some parent → parent < n
  pub leaves : (n a : ℕ) (node : Node) → slice_get s.nodes n ≡ Some node → node.fill ≡ fill.Leaf a → (act : Act) × (slice_get s.actions a ≡ Some act) × (act.node ≡ Some n)
  pub acts : (a n : ℕ) (act : Act) → slice_get s.actions a ≡ Some act → act.node ≡ Some n → (node : Node) × (slice_get s.nodes n ≡ Some node) × (node.fill ≡ fill.Leaf a)
  pub links : (a r b q : ℕ) (filled : Filled) → reference_at s.actions a r ≡ Some filled → filled.link ≡ link.Act b q → (other : Filled) × (reference_at s.actions b q ≡ Some other)
