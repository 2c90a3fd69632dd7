-- Component instances: where an action may run; and pools of more than one resource instance.
use Rattle.std.specs.Prelude.{◌≡◌, ℕ, List, [], ◌∷◌, true, false, Some, None}
use Rattle.pst_model.specs.declared.model.Part.{Part}
use Rattle.pst_model.specs.ModelTree.{ModelTree, ActionTree}
use Rattle.pst_model.specs.ActivityTree.{Parallel}
use Rattle.pst_scen.specs.declared.tree.Fill.TheVariants as fill
use Rattle.pst_scen.specs.declared.act.Act.{Act}
use Rattle.pst_scen.specs.declared.scenario.Scenario.{Scenario}
use Rattle.pst_legal.specs.Types.{instances_of, is_under}
use Rattle.pst_scen.specs.Plans.{KeepsParallel}
use Rattle.pst_legal.specs.ValueReading.{Whole, read}
use Rattle.pst_trials.specs.Parts.{name, atomic, compound, pool_of, traverse, act_claims, claimed, root_node, node, scenario_of, places}
use Rattle.pst_trials.specs.Locks.{model as claim_model, twice}

-- an action type of the other component
abbrev pub inside : ActionTree → ActionTree
inside type = record type { component = name 1 }

-- pss_top with two instances of the component dma_c
abbrev pub parts : List Part
parts =
    record { name = name 0; component = name 0; parent = None; last = 2 }
    ∷ record { name = name 2; component = name 1; parent = Some 0; last = 1 }
    ∷ record { name = name 3; component = name 1; parent = Some 0; last = 2 } ∷ []

-- component dma_c { action M { } action J { activity { do M; } } }
-- component pss_top { dma_c d; dma_c e; action entry { activity { do dma_c::M; do dma_c::J; } } }
abbrev pub model : ModelTree
model = record {
  actions = inside (atomic [] []) ∷ inside (compound [] (traverse 0 ∷ []) []) ∷ compound [] (traverse 0 ∷ traverse 1 ∷ []) [] ∷ [];
  objects = [];
  instances = parts;
  pools = [];
  functions = [];
  served = [];
}

abbrev pub act_in : ℕ → ℕ → Act
act_in instance n = record { action = 0; instance = instance; node = Some n; fields = []; references = []; claims = [] }

-- M runs in e, and J with its M in d
abbrev pub scenario : Scenario
scenario = scenario_of 0
    (root_node 2 [] ∷ node 0 (fill.Leaf 0) ∷ node 0 (fill.Compound 1 1 []) ∷ node 2 (fill.Leaf 1) ∷ [])
    (act_in 2 1 ∷ act_in 1 3 ∷ [])
    []

-- two locks in parallel, with two instances of the resource
abbrev pub two_resources : ModelTree
two_resources = record (claim_model true (Parallel twice)) { pools = pool_of 2 ∷ [] }

abbrev pub apart : Scenario
apart = scenario_of 0
    (root_node 1 [] ∷ node 0 fill.Parallel ∷ node 1 (fill.Leaf 0) ∷ node 1 (fill.Leaf 1) ∷ [])
    (act_claims 0 (Some 2) (claimed true 1 ∷ []) ∷ act_claims 0 (Some 3) (claimed true 0 ∷ []) ∷ [])
    []

pub record InstancesAreTried : Type 0 where
  pub of_component : instances_of model (name 1) None ≡ 1 ∷ 2 ∷ []
  pub of_subtree : instances_of model (name 1) (Some 1) ≡ 1 ∷ []
  pub of_top : instances_of model (name 0) (Some 0) ≡ 0 ∷ []
  pub none_outside : instances_of model (name 0) (Some 1) ≡ []
  pub not_under : is_under model (Some 1) 2 ≡ false
  -- M and J may run in both instances; the M of J runs in J's own
  pub options : places model 2 1 0 (0 ∷ 0 ∷ 0 ∷ 0 ∷ []) ≡ Some 1 ∷ Some 2 ∷ Some 2 ∷ Some 1 ∷ []
  -- The words of seed 1 at places 1 and 2 leave 1 and 0 at two instances.
  pub reads : read model 2 1 0 (0 ∷ 0 ∷ 0 ∷ 0 ∷ []) ≡ Whole scenario
  -- The words of seed 1 at places 3 and 4 leave 1 and 0 at two resource instances.
  pub resource_options : places two_resources 1 1 0 (0 ∷ 0 ∷ 0 ∷ 0 ∷ 0 ∷ []) ≡ Some 1 ∷ Some 1 ∷ Some 1 ∷ Some 2 ∷ Some 2 ∷ []
  pub reads_apart : read two_resources 1 1 0 (0 ∷ 0 ∷ 0 ∷ 0 ∷ 0 ∷ []) ≡ Whole apart
  pub apart_is_kept : KeepsParallel apart
