-- A filled-in activity as it grows in preorder, and the limits on its size.
use Rattle.std.specs.Prelude.{ℕ, ◌≤◌, List, [], ◌∷◌, ◌++◌, map, length, Bool, ◌&&◌, nat_le, Option, Some, None}
use Rattle.std.specs.List.{enumerate_from}
use Rattle.std.specs.Option.{unwrap_or}
use Rattle.pst_model.specs.declared.action.Reference.{Reference}
use Rattle.pst_model.specs.ModelTree.{ModelTree, ActionTree}
use Rattle.pst_scen.specs.declared.tree.Node.{Node}
use Rattle.pst_scen.specs.declared.tree.Fill.{Fill}
use Rattle.pst_scen.specs.declared.tree.Fill.TheVariants as fill
use Rattle.pst_scen.specs.declared.act.Act.{Act}
use Rattle.pst_scen.specs.declared.act.Filled.{Filled}
use Rattle.pst_scen.specs.declared.act.Flow.TheVariants.{BufferIn}
use Rattle.pst_scen.specs.declared.act.Link.TheVariants.{Nothing}
use Rattle.pst_scen.specs.declared.scenario.Scenario.{Scenario}
use Rattle.pst_legal.specs.Types.{type_of, served, reference_flow}

-- a scenario of which nothing is there yet
abbrev pub nothing_yet : ℕ → Scenario
nothing_yet level = record { level = level; nodes = []; actions = []; firsts = [] }

-- what a new node is
pub data Look : Type 0 where
  Inner : (fill : Fill) → Look
  Leaf : (action instance : ℕ) → Look

-- A reference that isn't linked yet, with the pool that serves it. (A sound model serves each reference of an atomic
-- action that isn't abstract, in each instance of its component, so the numbers for want of these never stand.)
abbrev pub open_reference : ModelTree → ℕ → ℕ → ℕ × Reference → Filled
open_reference m action instance numbered = record {
  pool = unwrap_or (served m action instance numbered.0) 0;
  flow = unwrap_or (reference_flow m numbered.1) BufferIn;
  values = [];
  link = Nothing;
}

abbrev pub open_references : ModelTree → ℕ → ℕ → Option ActionTree → List Filled
open_references m action instance None = []
open_references m action instance (Some type) = map (open_reference m action instance) (enumerate_from 0 type.references)

-- an action of the type in the instance, before anything else of it is known
abbrev pub open_act : ModelTree → ℕ → ℕ → Option ℕ → Act
open_act m action instance node = record {
  action = action;
  instance = instance;
  node = node;
  fields = [];
  references = open_references m action instance (type_of m action);
  claims = [];
}

-- one more node in a parent, and its action where it is a leaf
abbrev pub with_look : ModelTree → Scenario → Option ℕ → Look → Scenario
with_look m s parent (Inner fill) = record s { nodes = s.nodes ++ record { parent = parent; fill = fill } ∷ [] }
with_look m s parent (Leaf action instance) = record s {
  nodes = s.nodes ++ record { parent = parent; fill = fill.Leaf (length s.actions) } ∷ [];
  actions = s.actions ++ open_act m action instance (Some (length s.nodes)) ∷ [];
}

-- ---- limits

abbrev pub most_nodes : ℕ
most_nodes = 65536

abbrev pub most_acts : ℕ
most_acts = 16384

-- the root has depth 1
abbrev pub most_levels : ℕ
most_levels = 64

pub record IsWithin (nodes : List Node) (acts : List Act) : Type 0 where
  pub few_nodes : length nodes ≤ most_nodes
  pub few_acts : length acts ≤ most_acts

abbrev pub is_within : Scenario → Bool
is_within s = nat_le (length s.nodes) most_nodes && nat_le (length s.actions) most_acts
