-- Two actions in sequence, and what commands make of their trace on one lane.
use Rattle.std.specs.Prelude.{◌≡◌, List, [], ◌∷◌, Some}
use Rattle.pst_model.specs.ModelTree.{ModelTree}
use Rattle.pst_scen.specs.declared.tree.Fill.TheVariants as fill
use Rattle.pst_scen.specs.declared.scenario.Scenario.{Scenario}
use Rattle.pst_scen.specs.declared.event.Event.{Event}
use Rattle.pst_scen.specs.declared.event.Event.TheVariants.{End}
use Rattle.pst_scen.specs.Core.{Command, Open, Close, Core, commands_of}
use Rattle.pst_scen.specs.Trace.{IsLegalTrace, Prefix}
use Rattle.pst_legal.specs.ValueReading.{Whole, read}
use Rattle.pst_trials.specs.Parts.{atomic, compound, top, traverse, act_of, root_node, node, scenario_of, start}

-- component pss_top { action A { } action B { } action entry { activity { do A; do B; } } }
abbrev pub model : ModelTree
model = record {
  actions = atomic [] [] ∷ atomic [] [] ∷ compound [] (traverse 0 ∷ traverse 1 ∷ []) [] ∷ [];
  objects = [];
  instances = top;
  pools = [];
  functions = [];
  served = [];
}

abbrev pub scenario : Scenario
scenario = scenario_of 0
    (root_node 2 [] ∷ node 0 (fill.Leaf 0) ∷ node 0 (fill.Leaf 1) ∷ [])
    (act_of 0 (Some 1) [] ∷ act_of 1 (Some 2) [] ∷ [])
    []

-- commands of which half do nothing
abbrev pub commands : List Command
commands = Close 0 ∷ Open ∷ Open ∷ Close 1 ∷ Close 0 ∷ Open ∷ Close 1 ∷ Open ∷ []

abbrev pub in_sequence : List Event
in_sequence = start 0 0 ∷ End 0 ∷ start 1 0 ∷ End 1 ∷ []

pub record CoresAreTried : Type 0 where
  pub reads : read model 2 1 0 (0 ∷ 0 ∷ 0 ∷ []) ≡ Whole scenario
  -- an action that doesn't run can't end; no group starts where no lane is idle, and none once all have started
  pub makes : Core scenario 1 commands in_sequence
  pub commands_again : commands_of in_sequence ≡ Open ∷ Close 0 ∷ Open ∷ Close 1 ∷ []
  pub legal : IsLegalTrace scenario 1 in_sequence
  -- the first action begins a whole trace
  pub prefix : Prefix scenario 1 (start 0 0 ∷ [])
