-- What a scenario has beyond another one, before any value is read but those of compound actions.
use Rattle.std.specs.Prelude.{◌≡◌, ◌⊎◌, ℕ, ◌+◌, ◌<◌, ◌≤◌, List, [], length, Some, slice_get}
use Rattle.pst_scen.specs.declared.tree.Node.{Node}
use Rattle.pst_scen.specs.declared.tree.Fill.TheVariants as fill
use Rattle.pst_scen.specs.declared.act.Act.{Act}
use Rattle.pst_scen.specs.declared.act.Filled.{Filled}
use Rattle.pst_scen.specs.declared.scenario.Scenario.{Scenario}
use Rattle.pst_scen.specs.Scenarios.{reference_at}
use Rattle.pst_built.specs.Onward.{Each, MoreNode}
use Rattle.pst_refusals.specs.Answers.{StandEarlier}

-- no value of an output is read, and no first object
pub record IsUnread (s : Scenario) : Type 0 where
  pub outputs : (a r : ℕ) (f : Filled) → reference_at s.actions a r ≡ Some f → f.values ≡ []
  pub firsts : s.firsts ≡ []

-- the action is one of these
abbrev pub IsFresh : List Act → Act → Type 0
IsFresh fresh act = (k : ℕ) × (slice_get fresh k ≡ Some act)

-- The nodes of the scenario below that number, and its actions that aren't among these, stand in the other one as they are. That
-- one has at most one node more than these, its nodes and those of the scenario are the same but for further values, and leaves
-- and actions name each other.
pub record IsSince (s t : Scenario) (from : ℕ) (fresh : List Act) : Type 0 where
  pub nodes : (n : ℕ) (node : Node) → n < from → slice_get t.nodes n ≡ Some node → slice_get s.nodes n ≡ Some node
  pub acts : (a : ℕ) (act : Act) → slice_get t.actions a ≡ Some act → (slice_get s.actions a ≡ Some act) ⊎ IsFresh fresh act
  pub old : IsUnread s
  pub new : IsUnread t
  pub few : length s.nodes ≤ from + 1
  pub more : Each MoreNode s.nodes t.nodes
  pub earlier : StandEarlier t.nodes
  pub leaves : (n a : ℕ) (node : Node) → slice_get t.nodes n ≡ Some node → node.fill ≡ fill.Leaf a → (act : Act) × (slice_get t.actions a ≡ Some act) × (act.node ≡ Some n)
  pub homes : (a n : ℕ) (act : Act) → slice_get s.actions a ≡ Some act → act.node ≡ Some n → (node : Node) × (slice_get s.nodes n ≡ Some node) × (node.fill ≡ fill.Leaf a)
