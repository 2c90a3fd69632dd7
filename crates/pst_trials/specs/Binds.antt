-- A producer and a consumer whose ends an activity binds, in parallel and in any order.
use Rattle.std.specs.Prelude.{◌≡◌, ℕ, List, [], ◌∷◌, Some, None}
use Rattle.pst_model.specs.declared.object.ObjectKind.TheVariants.{Buffer}
use Rattle.pst_model.specs.ActivityTree.{StepTree, StepRow, Parallel, Schedule}
use Rattle.pst_model.specs.ModelTree.{ModelTree}
use Rattle.pst_scen.specs.declared.tree.Fill.{Fill}
use Rattle.pst_scen.specs.declared.tree.Fill.TheVariants as fill
use Rattle.pst_scen.specs.declared.act.Flow.TheVariants.{BufferIn, BufferOut}
use Rattle.pst_scen.specs.declared.act.Link.TheVariants.{Nothing, Act}
use Rattle.pst_scen.specs.declared.scenario.Scenario.{Scenario}
use Rattle.pst_scen.specs.declared.event.Event.{Event}
use Rattle.pst_scen.specs.declared.event.Event.TheVariants.{End}
use Rattle.pst_legal.specs.Binds.{bounds_of, fixed_source}
use Rattle.pst_scen.specs.Order.{Must}
use Rattle.pst_scen.specs.Trace.{IsLegalTrace, IsWhole}
use Rattle.pst_scen.specs.Plans.{KeepsParallel}
use Rattle.pst_legal.specs.Legal.{Legal}
use Rattle.pst_legal.specs.ValueReading.{Whole, read}
use Rattle.pst_trials.specs.Parts.{compound, traverse_by, filling, act_of, filled, root_node, node, scenario_of, start, places}
use Rattle.pst_trials.specs.Inference.{flow_model}

-- P p; C c; activity { .. bind p.o c.i; }
abbrev pub model : StepTree → ModelTree
model step = flow_model Buffer (compound (0 ∷ 1 ∷ []) (step ∷ []) (record { from_handle = 0; from_reference = 0; to_handle = 1; to_reference = 0 } ∷ []))

-- p; c;
abbrev pub both : StepRow
both = filling (traverse_by 0 0 ∷ traverse_by 1 1 ∷ [])

abbrev pub scenario : Fill → Scenario
scenario block = scenario_of 0
    (root_node 2 [] ∷ node 0 block ∷ node 1 (fill.Leaf 0) ∷ node 1 (fill.Leaf 1) ∷ [])
    (act_of 0 (Some 2) (filled BufferOut [] Nothing ∷ []) ∷ act_of 1 (Some 3) (filled BufferIn [] (Act 0 0) ∷ []) ∷ [])
    []

abbrev pub choices : List ℕ
choices = 0 ∷ 0 ∷ 0 ∷ 0 ∷ []

abbrev pub producer_first : List Event
producer_first = start 0 0 ∷ End 0 ∷ start 1 0 ∷ End 1 ∷ []

pub record BindsAreTried : Type 0 where
  pub joined : bounds_of (model (Parallel both)) (scenario fill.Parallel).nodes ≡ record { from_act = 0; from_reference = 0; to_act = 1; to_reference = 0 } ∷ []
  pub fixed : fixed_source (bounds_of (model (Parallel both)) (scenario fill.Parallel).nodes) 1 0 BufferIn ≡ Some (0, 0)
  pub not_of_output : fixed_source (bounds_of (model (Parallel both)) (scenario fill.Parallel).nodes) 0 0 BufferOut ≡ None
  pub reads_parallel : read (model (Parallel both)) 2 1 0 choices ≡ Whole (scenario fill.Parallel)
  pub reads_any_order : read (model (Schedule both)) 2 1 0 choices ≡ Whole (scenario fill.Schedule)
  -- the bound need has one option, also where an action might be inferred
  pub one_option : places (model (Schedule both)) 2 1 0 choices ≡ Some 1 ∷ Some 1 ∷ Some 1 ∷ Some 1 ∷ []
  pub one_option_still : places (model (Schedule both)) 2 1 1 choices ≡ Some 1 ∷ Some 1 ∷ Some 1 ∷ Some 1 ∷ []
  pub order : Must (scenario fill.Parallel) 0 1
  pub parallel_is_ordered : KeepsParallel (scenario fill.Parallel) → ⊥
  pub parallel_is_illegal : Legal (model (Parallel both)) 2 (scenario fill.Parallel) → ⊥
  pub trace : IsLegalTrace (scenario fill.Schedule) 1 producer_first
  pub whole : IsWhole (scenario fill.Schedule) producer_first
  pub legal : Legal (model (Schedule both)) 2 (scenario fill.Schedule)
