-- What the checks of a scenario find. Only tests use them.
use Rattle.std.specs.Prelude.{◌≡◌, ◌≢◌, ◌⊎◌, ◌≤◌, ◌<◌, ◌+◌, ℕ, suc, List, Option, Some, None, length, map, take, slice_get}
use Rattle.std.specs.List.{range_with_len}
use Rattle.pst_scen.specs.declared.tree.Node.{Node}
use Rattle.pst_scen.specs.declared.tree.Fill.{Fill}
use Rattle.pst_scen.specs.declared.tree.Fill.TheVariants.{Leaf}
use Rattle.pst_scen.specs.declared.act.Act.{Act}
use Rattle.pst_scen.specs.declared.act.Filled.{Filled}
use Rattle.pst_scen.specs.declared.act.Flow.TheVariants.{StateIn, StateOut}
use Rattle.pst_scen.specs.declared.act.Link.{Link}
use Rattle.pst_scen.specs.declared.act.Link.TheVariants as link
use Rattle.pst_scen.specs.declared.scenario.Scenario.{Scenario}
use Rattle.pst_scen.specs.Tree.{StandsUnder}
use Rattle.pst_scen.specs.Flows.{IsAct}
use Rattle.pst_scen.specs.Scenarios.{leaves_of}
use Rattle.pst_order.specs.Facts.{IsOutput}

abbrev pub IsParentEarlier : ℕ → Option ℕ → Type 0
IsParentEarlier n parent = (p : ℕ) → parent ≡ Some p → p < n

-- the node behind that one stands directly in it, or in one over it
abbrev pub IsNextNode : List Node → ℕ → Type 0
IsNextNode nodes n = (node : Node) → slice_get nodes (suc n) ≡ Some node → (parent : ℕ) × (node.parent ≡ Some parent) × StandsUnder nodes parent n

-- the action of that number has that node
abbrev pub HasNode : List Act → ℕ → ℕ → Type 0
HasNode acts k n = (act : Act) × (slice_get acts k ≡ Some act) × (act.node ≡ Some n)

-- a leaf of the action of the next number, which has the node; or no leaf
abbrev pub IsNextLeaf : Fill → List Act → ℕ → ℕ → ℕ → Type 0
IsNextLeaf fill acts n k more = ((fill ≡ Leaf k) × HasNode acts k n × (more ≡ k + 1)) ⊎ (((act : ℕ) → fill ≡ Leaf act → ⊥) × (more ≡ k))

-- of the first nodes, the leaves have the first actions in order, which have them
pub record AreLeavesTo (nodes : List Node) (acts : List Act) (n count : ℕ) : Type 0 where
  pub within : count ≤ length acts
  pub many : length (leaves_of (take n nodes)) ≡ count
  pub numbers : map (λ e. e.0) (leaves_of (take n nodes)) ≡ range_with_len 0 count
  pub nodes_of : map (λ act. act.node) (take count acts) ≡ map (λ e. Some e.1) (leaves_of (take n nodes))
  pub below : (m act : ℕ) (node : Node) → m < n → slice_get nodes m ≡ Some node → node.fill ≡ Leaf act → act < count
  pub apart : (m o act : ℕ) (node other : Node) → m < n → o < n → slice_get nodes m ≡ Some node → slice_get nodes o ≡ Some other → node.fill ≡ Leaf act → other.fill ≡ Leaf act → m ≡ o

-- the actions from that number on have no node
abbrev pub AreInferred : List Act → ℕ → Type 0
AreInferred acts first = (a : ℕ) (act : Act) → first ≤ a → slice_get acts a ≡ Some act → act.node ≡ None

abbrev pub IsLinkIn : ℕ → ℕ → Link → Type 0
IsLinkIn a count to = (b q : ℕ) → to ≡ link.Act b q → (b < count) × (b ≢ a)

-- the reference of that number is an output to the state pool
abbrev pub HasOutputAt : Act → ℕ → ℕ → Type 0
HasOutputAt act reference pool = (filled : Filled) × (slice_get act.references reference ≡ Some filled) × (filled.flow ≡ StateOut) × (filled.pool ≡ pool)

abbrev pub HasOutput : Scenario → ℕ → ℕ → ℕ → Type 0
HasOutput s b reference pool = (previous : Link) × IsOutput s b reference pool previous

-- the link is of a writer of the state pool, or of its first object
abbrev pub IsStateLink : Scenario → Link → ℕ → Type 0
IsStateLink s link.Nothing pool = ⊥
IsStateLink s link.Initial pool = Unit {0}
IsStateLink s (link.Act b q) pool = HasOutput s b q pool

abbrev pub IsReferenceLinked : Scenario → ℕ → Filled → Type 0
IsReferenceLinked s a filled = IsLinkIn a (length s.actions) filled.link × ((filled.flow ≡ StateIn) ⊎ (filled.flow ≡ StateOut) → IsStateLink s filled.link filled.pool)

abbrev pub AreReferencesLinked : Scenario → ℕ → List Filled → Type 0
AreReferencesLinked s a references = (r : ℕ) (filled : Filled) → slice_get references r ≡ Some filled → IsReferenceLinked s a filled

abbrev pub AreActsLinked : Scenario → Type 0
AreActsLinked s = (a : ℕ) (act : Act) → IsAct s a act → AreReferencesLinked s a act.references

-- both are outputs to one state pool with the same previous writer
abbrev pub AreRivals : Filled → Filled → Type 0
AreRivals one other = (one.flow ≡ StateOut) × (other.flow ≡ StateOut) × (one.pool ≡ other.pool) × (one.link ≡ other.link)

-- the one's only rival among the references is itself, where it has that place there
abbrev pub HasNoRivalIn : Filled → Option ℕ → List Filled → Type 0
HasNoRivalIn one own references = (q : ℕ) (other : Filled) → slice_get references q ≡ Some other → AreRivals one other → own ≡ Some q

abbrev pub HasNoRival : Scenario → ℕ → ℕ → Filled → Type 0
HasNoRival s a r one = (b q : ℕ) (act : Act) (other : Filled) → IsAct s b act → slice_get act.references q ≡ Some other → AreRivals one other → (a ≡ b) × (r ≡ q)

abbrev pub HaveNoRivals : Scenario → ℕ → List Filled → Type 0
HaveNoRivals s a references = (r : ℕ) (one : Filled) → slice_get references r ≡ Some one → HasNoRival s a r one

abbrev pub HasNoRivals : Scenario → Type 0
HasNoRivals s = (a : ℕ) (act : Act) → IsAct s a act → HaveNoRivals s a act.references

-- each leaf's action is one of the scenario
abbrev pub AreLeavesIn : Scenario → Type 0
AreLeavesIn s = (n act : ℕ) (node : Node) → slice_get s.nodes n ≡ Some node → node.fill ≡ Leaf act → act < length s.actions
