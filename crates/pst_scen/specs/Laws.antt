-- Laws of the order and of legal traces.
use Rattle.std.specs.Prelude.{◌≡◌, ℕ, ◌<◌, ◌≤◌, List}
use Rattle.std.specs.Prelude.{slice_get, Some}
use Rattle.pst_scen.specs.declared.tree.Node.{Node}
use Rattle.pst_scen.specs.declared.tree.Fill.TheVariants.{Leaf}
use Rattle.pst_scen.specs.declared.scenario.Scenario.{Scenario}
use Rattle.pst_scen.specs.declared.event.Event.{Event}
use Rattle.pst_scen.specs.Order.{Before}
use Rattle.pst_scen.specs.Trace.{IsLegalTrace, IsWhole, Prefix}

-- each node but the first stands in an earlier one
pub record IsPreorder (nodes : List Node) : Type 0 where
  pub parents : (n parent : ℕ) (node : Node) → slice_get nodes n ≡ Some node → node.parent ≡ Some parent → parent < n

-- no two leaves are of one action
pub record HasOneLeafEach (nodes : List Node) : Type 0 where
  pub one : (m n act : ℕ) (first second : Node) → slice_get nodes m ≡ Some first → slice_get nodes n ≡ Some second → first.fill ≡ Leaf act → second.fill ≡ Leaf act → m ≡ n

-- No action comes before itself by the order of statements.
abbrev pub BeforeIsNeverItself : Type 0
BeforeIsNeverItself = (s : Scenario) (a : ℕ) → IsPreorder s.nodes → HasOneLeafEach s.nodes → Before s a a → ⊥

-- A trace that is legal on some lanes is legal on more.
abbrev pub WiderTracesAreLegal : Type 0
WiderTracesAreLegal = (s : Scenario) (lanes more : ℕ) (trace : List Event) → lanes ≤ more → IsLegalTrace s lanes trace → IsLegalTrace s more trace

-- What begins a whole legal trace is legal.
abbrev pub PrefixesAreLegal : Type 0
PrefixesAreLegal = (s : Scenario) (lanes : ℕ) (trace : List Event) → Prefix s lanes trace → IsLegalTrace s lanes trace

-- A whole legal trace begins itself.
abbrev pub WholeTracesArePrefixes : Type 0
WholeTracesArePrefixes = (s : Scenario) (lanes : ℕ) (trace : List Event) → IsLegalTrace s lanes trace → IsWhole s trace → Prefix s lanes trace
