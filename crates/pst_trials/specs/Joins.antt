-- Blocks that wait for some of their branches, or for none.
use Rattle.std.specs.Prelude.{◌≡◌, ℕ, List, [], ◌∷◌, true, Some}
use Rattle.pst_model.specs.declared.object.ObjectKind.TheVariants.{Buffer}
use Rattle.pst_model.specs.declared.activity.Join.TheVariants.{Fixed, Choose}
use Rattle.pst_model.specs.ActivityTree.{StepTree, StepRow, Joined}
use Rattle.pst_model.specs.ModelTree.{ModelTree}
use Rattle.pst_scen.specs.declared.tree.Fill.{Fill}
use Rattle.pst_scen.specs.declared.tree.Fill.TheVariants as fill
use Rattle.pst_scen.specs.declared.act.Flow.TheVariants.{BufferIn, BufferOut}
use Rattle.pst_scen.specs.declared.act.Link.TheVariants.{Nothing, Act}
use Rattle.pst_scen.specs.declared.scenario.Scenario.{Scenario}
use Rattle.pst_scen.specs.declared.event.Event.{Event}
use Rattle.pst_scen.specs.declared.event.Event.TheVariants.{End}
use Rattle.pst_legal.specs.Binds.{bounds_of}
use Rattle.pst_legal.specs.Fits.{FillsRoot}
use Rattle.pst_scen.specs.Order.{Before, Must}
use Rattle.pst_scen.specs.Trace.{MayCome, Starts, IsLegalTrace, IsWhole}
use Rattle.pst_legal.specs.ValueReading.{Dead, Whole, read}
use Rattle.pst_trials.specs.Parts.{atomic, compound, top, traverse, traverse_by, filling, act_of, filled, root_node, node, scenario_of, start, places}
use Rattle.pst_trials.specs.Inference.{flow_model}

-- action A { } action B { } action C { }
abbrev pub model : StepTree → ModelTree
model block = record {
  actions = atomic [] [] ∷ atomic [] [] ∷ atomic [] [] ∷ compound [] (block ∷ traverse 2 ∷ []) [] ∷ [];
  objects = [];
  instances = top;
  pools = [];
  functions = [];
  served = [];
}

-- do A; do B;
abbrev pub branches : StepRow
branches = filling (traverse 0 ∷ traverse 1 ∷ [])

-- parallel .. { do A; do B; } do C;
abbrev pub scenario : Fill → Scenario
scenario block = scenario_of 0
    (root_node 3 [] ∷ node 0 block ∷ node 1 (fill.Leaf 0) ∷ node 1 (fill.Leaf 1) ∷ node 0 (fill.Leaf 2) ∷ [])
    (act_of 0 (Some 2) [] ∷ act_of 1 (Some 3) [] ∷ act_of 2 (Some 4) [] ∷ [])
    []

abbrev pub choices : List ℕ
choices = 0 ∷ 0 ∷ 0 ∷ 0 ∷ []

abbrev pub third_before_second : List Event
third_before_second = start 0 0 ∷ End 0 ∷ start 2 0 ∷ End 2 ∷ start 1 0 ∷ End 1 ∷ []

-- C c; P p; activity { parallel .. { c; } p; bind p.o c.i; }
abbrev pub across : StepTree → ModelTree
across block = flow_model Buffer (compound (1 ∷ 0 ∷ []) (block ∷ traverse_by 0 1 ∷ []) (record { from_handle = 1; from_reference = 0; to_handle = 0; to_reference = 0 } ∷ []))

abbrev pub crossed : Fill → Scenario
crossed block = scenario_of 0
    (root_node 2 [] ∷ node 0 block ∷ node 1 (fill.Leaf 0) ∷ node 0 (fill.Leaf 1) ∷ [])
    (act_of 1 (Some 2) (filled BufferIn [] (Act 1 0) ∷ []) ∷ act_of 0 (Some 3) (filled BufferOut [] Nothing ∷ []) ∷ [])
    []

abbrev pub second_first : List Event
second_first = start 1 0 ∷ End 1 ∷ start 0 0 ∷ End 0 ∷ []

pub record JoinsAreTried : Type 0 where
  -- of the branches A and B the block waits for A
  pub reads_named : read (model (Joined true (Fixed 1) branches)) 3 1 0 choices ≡ Whole (scenario (fill.Joined true 1))
  pub awaited : Before (scenario (fill.Joined true 1)) 0 2
  pub released : Before (scenario (fill.Joined true 1)) 1 2 → ⊥
  pub trace : IsLegalTrace (scenario (fill.Joined true 1)) 1 third_before_second
  pub whole : IsWhole (scenario (fill.Joined true 1)) third_before_second
  -- without a join form it waits for both
  pub plain_awaited : Before (scenario fill.Parallel) 1 2
  pub plain_waits : MayCome (scenario fill.Parallel) 1 (start 0 0 ∷ End 0 ∷ []) (Starts (2 ∷ []) (0 ∷ [])) → ⊥
  pub plain_trace : IsLegalTrace (scenario fill.Parallel) 1 third_before_second → ⊥
  -- one of two branches: the first may be joined or not, and then the second is settled; seed 1 begins with `not`
  pub chosen_options : places (model (Joined true (Choose 1) branches)) 3 1 0 (0 ∷ 0 ∷ 0 ∷ 0 ∷ 0 ∷ 0 ∷ []) ≡ Some 1 ∷ Some 2 ∷ Some 1 ∷ Some 1 ∷ Some 1 ∷ Some 1 ∷ []
  pub chosen_second : read (model (Joined true (Choose 1) branches)) 3 1 0 (0 ∷ 0 ∷ 0 ∷ 0 ∷ 0 ∷ 0 ∷ []) ≡ Whole (scenario (fill.Joined true 2))
  pub chosen_first : read (model (Joined true (Choose 1) branches)) 3 1 0 (0 ∷ 1 ∷ 0 ∷ 0 ∷ 0 ∷ 0 ∷ []) ≡ Whole (scenario (fill.Joined true 1))
  pub too_many : read (model (Joined true (Choose 3) branches)) 3 1 0 (0 ∷ []) ≡ Dead
  -- a bind across a block that waits for nothing
  pub crossed_reads : read (across (Joined true (Fixed 0) (filling (traverse_by 1 0 ∷ [])))) 2 1 0 choices ≡ Whole (crossed (fill.Joined true 0))
  pub crossed_bound : bounds_of (across (Joined true (Fixed 0) (filling (traverse_by 1 0 ∷ [])))) (crossed (fill.Joined true 0)).nodes ≡ record { from_act = 1; from_reference = 0; to_act = 0; to_reference = 0 } ∷ []
  pub crossed_released : Before (crossed (fill.Joined true 0)) 0 1 → ⊥
  pub crossed_order : Must (crossed (fill.Joined true 0)) 1 0
  pub crossed_trace : IsLegalTrace (crossed (fill.Joined true 0)) 1 second_first
  pub crossed_whole : IsWhole (crossed (fill.Joined true 0)) second_first
  -- and across a plain block, which is a cycle
  pub plain_crossed_cycle : Must (crossed fill.Parallel) 0 0
  -- the blocks fill their statements
  pub named_fills : FillsRoot (model (Joined true (Fixed 1) branches)) 3 (scenario (fill.Joined true 1))
  pub chosen_fills : FillsRoot (model (Joined true (Choose 1) branches)) 3 (scenario (fill.Joined true 2))
