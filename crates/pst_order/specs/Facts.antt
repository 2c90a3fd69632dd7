-- What the links of a scenario keep beside the order that they give.
use Rattle.std.specs.Prelude.{◌≡◌, ◌≢◌, ◌<◌, ℕ, length, Some, slice_get}
use Rattle.pst_scen.specs.declared.tree.Node.{Node}
use Rattle.pst_scen.specs.declared.tree.Fill.TheVariants.{Leaf}
use Rattle.pst_scen.specs.declared.act.Act.{Act}
use Rattle.pst_scen.specs.declared.act.Filled.{Filled}
use Rattle.pst_scen.specs.declared.act.Flow.{Flow}
use Rattle.pst_scen.specs.declared.act.Flow.TheVariants.{StateOut}
use Rattle.pst_scen.specs.declared.act.Link.{Link}
use Rattle.pst_scen.specs.declared.act.Link.TheVariants as link
use Rattle.pst_scen.specs.declared.scenario.Scenario.{Scenario}
use Rattle.pst_scen.specs.Tree.{IsNode}
use Rattle.pst_scen.specs.Flows.{IsAct, Refers, Reads, Writes}
use Rattle.pst_scen.specs.Laws.{IsPreorder, HasOneLeafEach}

-- the reference of that number of a is an output to the state pool, with that previous writer
pub record IsOutput (s : Scenario) (a reference pool : ℕ) (previous : Link) : Type 0 where
  pub act : Act
  pub filled : Filled
  pub is_act : IsAct s a act
  pub is : slice_get act.references reference ≡ Some filled
  pub of_flow : filled.flow ≡ StateOut
  pub of_pool : filled.pool ≡ pool
  pub linked : filled.link ≡ previous

-- Each link of a state reference to an action leads to an output to the same pool, and no two
-- outputs to one pool have the same previous writer.
pub record LinksStates (s : Scenario) : Type 0 where
  pub source : (a pool writer reference : ℕ) → Reads s a pool (link.Act writer reference) → (previous : Link) × IsOutput s writer reference pool previous
  pub previous : (a pool writer reference : ℕ) → Writes s a pool (link.Act writer reference) → (previous : Link) × IsOutput s writer reference pool previous
  pub one_next : (pool a reference b other : ℕ) (previous : Link) → IsOutput s a reference pool previous → IsOutput s b other pool previous → (a ≡ b) × (reference ≡ other)

-- What a scenario whose references are linked keeps: its nodes stand in preorder, each action has
-- one leaf at most, leaves and links name actions that there are, no link leads to its own action,
-- each reference to a state pool has a link, and these link as above.
pub record IsLinked (s : Scenario) : Type 0 where
  pub preorder : IsPreorder s.nodes
  pub one_leaf : HasOneLeafEach s.nodes
  pub leaves_in : (n act : ℕ) (node : Node) → IsNode s.nodes n node → node.fill ≡ Leaf act → act < length s.actions
  pub links_in : (a pool other reference : ℕ) (flow : Flow) → Refers s a flow pool (link.Act other reference) → other < length s.actions
  pub links_other : (a pool other reference : ℕ) (flow : Flow) → Refers s a flow pool (link.Act other reference) → other ≢ a
  pub reads_linked : (a pool : ℕ) → Reads s a pool link.Nothing → ⊥
  pub writes_linked : (a pool : ℕ) → Writes s a pool link.Nothing → ⊥
  pub states : LinksStates s
