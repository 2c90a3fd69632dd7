-- A consumer of a buffer, whose producer is inferred.
use Rattle.std.specs.Prelude.{◌≡◌, ℕ, List, [], ◌∷◌, Some, None}
use Rattle.pst_model.specs.declared.object.ObjectKind.{ObjectKind}
use Rattle.pst_model.specs.declared.object.ObjectKind.TheVariants.{Buffer}
use Rattle.pst_model.specs.ModelTree.{ModelTree, ActionTree}
use Rattle.pst_scen.specs.declared.tree.Fill.TheVariants as fill
use Rattle.pst_scen.specs.declared.act.Flow.TheVariants.{BufferIn, BufferOut}
use Rattle.pst_scen.specs.declared.act.Link.TheVariants.{Nothing, Act}
use Rattle.pst_scen.specs.declared.scenario.Scenario.{Scenario}
use Rattle.pst_scen.specs.declared.event.Event.{Event}
use Rattle.pst_scen.specs.declared.event.Event.TheVariants.{End}
use Rattle.pst_scen.specs.Order.{Must}
use Rattle.pst_scen.specs.Trace.{MayCome, Starts, IsLegalTrace, IsWhole}
use Rattle.pst_legal.specs.Supplied.{AreNamedInTurn, linkings}
use Rattle.pst_legal.specs.Legal.{Legal}
use Rattle.pst_legal.specs.ValueReading.{Dead, Whole, read}
use Rattle.pst_trials.specs.Parts.{bare, atomic, compound, top, pool_of, serve, traverse, input, output, act_of, filled, root_node, node, scenario_of, start, places}

-- buffer b_t { }, or stream, or state
-- component pss_top { pool b_t b; bind b *; action P { output b_t o; } action C { input b_t i; } action entry { .. } }
abbrev pub flow_model : ObjectKind → ActionTree → ModelTree
flow_model kind entry = record {
  actions = atomic (output 0 ∷ []) [] ∷ atomic (input 0 ∷ []) [] ∷ entry ∷ [];
  objects = bare kind ∷ [];
  instances = top;
  pools = pool_of 0 ∷ [];
  functions = [];
  served = serve 0 0 ∷ serve 1 0 ∷ [];
}

-- do C;
abbrev pub model : ModelTree
model = flow_model Buffer (compound [] (traverse 1 ∷ []) [])

-- action 0 is the consumer, action 1 the inferred producer
abbrev pub scenario : Scenario
scenario = scenario_of 1
    (root_node 2 [] ∷ node 0 (fill.Leaf 0) ∷ [])
    (act_of 1 (Some 1) (filled BufferIn [] (Act 1 0) ∷ []) ∷ act_of 0 None (filled BufferOut [] Nothing ∷ []) ∷ [])
    []

abbrev pub producer_first : List Event
producer_first = start 1 0 ∷ End 1 ∷ start 0 0 ∷ End 0 ∷ []

pub record InferenceIsTried : Type 0 where
  pub reads : read model 2 1 1 (0 ∷ 0 ∷ 0 ∷ []) ≡ Whole scenario
  pub one_option_each : places model 2 1 1 (0 ∷ 0 ∷ 0 ∷ []) ≡ Some 1 ∷ Some 1 ∷ Some 1 ∷ []
  -- where no action may be inferred the need has no option
  pub dead_without : (more : List ℕ) → read model 2 1 0 (0 ∷ 0 ∷ more) ≡ Dead
  pub numbered : AreNamedInTurn (linkings scenario.actions) 1 2
  -- the producer comes first
  pub order : Must scenario 1 0
  pub not_back : Must scenario 0 1 → ⊥
  pub trace : IsLegalTrace scenario 1 producer_first
  pub whole : IsWhole scenario producer_first
  pub consumer_waits : MayCome scenario 1 [] (Starts (0 ∷ []) (0 ∷ [])) → ⊥
  pub legal : Legal model 2 scenario
