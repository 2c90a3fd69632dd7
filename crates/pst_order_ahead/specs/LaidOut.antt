-- Scenarios whose activity is read through, whatever their links.
use Rattle.std.specs.Prelude.{◌≡◌, ◌<◌, ℕ, List, length}
use Rattle.pst_model.specs.ModelTree.{ModelTree}
use Rattle.pst_scen.specs.declared.tree.Node.{Node}
use Rattle.pst_scen.specs.declared.tree.Fill.TheVariants.{Leaf}
use Rattle.pst_scen.specs.declared.scenario.Scenario.{Scenario}
use Rattle.pst_scen.specs.Tree.{IsNode}
use Rattle.pst_scen.specs.Laws.{IsPreorder, HasOneLeafEach}
use Rattle.pst_scen.specs.Scenarios.{AreInPreorder, HasLeavesFirst, IsSmall}
use Rattle.pst_legal.specs.Growing.{nothing_yet}
use Rattle.pst_legal.specs.Reading.{Reads, read_tree}

-- Its nodes stand in preorder from one root on, each action has one leaf at most, the actions of its leaves come first and in the
-- order of the leaves, behind them come some inferred ones, and its numbers have 31 bits.
pub record IsLaidOut (s : Scenario) : Type 0 where
  pub preorder : AreInPreorder s.nodes
  pub parents : IsPreorder s.nodes
  pub one_leaf : HasOneLeafEach s.nodes
  pub leaves_in : (n act : ℕ) (node : Node) → IsNode s.nodes n node → node.fill ≡ Leaf act → act < length s.actions
  pub inferred : ℕ
  pub leaves : HasLeavesFirst (record s { level = inferred })
  pub small : IsSmall s

-- the list of choices reads the activity, and perhaps sources, claims and values behind it
abbrev pub ReadsTree : ModelTree → ℕ → ℕ → ℕ → List ℕ → Type 0
ReadsTree m root seed level choices = (u : Scenario) × (place : ℕ) × (left : List ℕ) × (read_tree m seed root (nothing_yet level) 0 choices ≡ Reads u place left)
