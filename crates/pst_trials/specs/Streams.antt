-- Two actions joined to partners by streams, where both partners are inferred.
use Rattle.std.specs.Prelude.{◌≡◌, List, [], ◌∷◌, Some, None, true, false}
use Rattle.pst_model.specs.declared.object.ObjectKind.TheVariants.{Stream}
use Rattle.pst_model.specs.ModelTree.{ModelTree}
use Rattle.pst_scen.specs.declared.tree.Fill.TheVariants as fill
use Rattle.pst_scen.specs.declared.act.Flow.TheVariants.{StreamIn, StreamOut}
use Rattle.pst_scen.specs.declared.act.Link.TheVariants.{Act}
use Rattle.pst_scen.specs.declared.scenario.Scenario.{Scenario}
use Rattle.pst_scen.specs.declared.event.Event.{Event}
use Rattle.pst_scen.specs.declared.event.Event.TheVariants.{Start, End}
use Rattle.pst_scen.specs.Order.{Must, Together}
use Rattle.pst_scen.specs.Trace.{MayCome, Starts, IsWholeGroup, IsLegalTrace, IsWhole}
use Rattle.pst_legal.specs.Supplied.{AreNamedInTurn, linkings}
use Rattle.pst_legal.specs.ValueReading.{Dead, Whole, read}
use Rattle.pst_trials.specs.Parts.{compound, traverse, traverse_by, act_of, filled, root_node, node, scenario_of, places}
use Rattle.pst_trials.specs.Inference.{flow_model}

-- do P; do C;
abbrev pub model : ModelTree
model = flow_model Stream (compound [] (traverse 0 ∷ traverse 1 ∷ []) [])

-- 0 with the inferred consumer 2, then 1 with the inferred producer 3
abbrev pub scenario : Scenario
scenario = scenario_of 2
    (root_node 2 [] ∷ node 0 (fill.Leaf 0) ∷ node 0 (fill.Leaf 1) ∷ [])
    (act_of 0 (Some 1) (filled StreamOut [] (Act 2 0) ∷ []) ∷ act_of 1 (Some 2) (filled StreamIn [] (Act 3 0) ∷ [])
    ∷ act_of 1 None (filled StreamIn [] (Act 0 0) ∷ []) ∷ act_of 0 None (filled StreamOut [] (Act 1 0) ∷ []) ∷ [])
    []

abbrev pub in_pairs : List Event
in_pairs = Start 0 0 true ∷ Start 2 1 false ∷ End 0 ∷ End 2 ∷ Start 1 0 true ∷ Start 3 1 false ∷ End 3 ∷ End 1 ∷ []

-- C d; P p; C c; activity { d; p; c; bind p.o c.i; }
abbrev pub bound : ModelTree
bound = flow_model Stream (compound (1 ∷ 0 ∷ 1 ∷ []) (traverse_by 1 0 ∷ traverse_by 0 1 ∷ traverse_by 1 2 ∷ []) (record { from_handle = 1; from_reference = 0; to_handle = 2; to_reference = 0 } ∷ []))

-- d has the inferred producer 3, and p and c have each other
abbrev pub kept : Scenario
kept = scenario_of 1
    (root_node 2 [] ∷ node 0 (fill.Leaf 0) ∷ node 0 (fill.Leaf 1) ∷ node 0 (fill.Leaf 2) ∷ [])
    (act_of 1 (Some 1) (filled StreamIn [] (Act 3 0) ∷ []) ∷ act_of 0 (Some 2) (filled StreamOut [] (Act 2 0) ∷ [])
    ∷ act_of 1 (Some 3) (filled StreamIn [] (Act 1 0) ∷ []) ∷ act_of 0 None (filled StreamOut [] (Act 0 0) ∷ []) ∷ [])
    []

pub record StreamsAreTried : Type 0 where
  -- the source of the first need is the other action's end or a new action; of the second it is a new action
  pub reads : read model 2 1 2 (0 ∷ 0 ∷ 0 ∷ 0 ∷ 0 ∷ []) ≡ Whole scenario
  pub options : places model 2 1 2 (0 ∷ 0 ∷ 0 ∷ 0 ∷ 0 ∷ []) ≡ Some 1 ∷ Some 1 ∷ Some 1 ∷ Some 2 ∷ Some 1 ∷ []
  pub numbered : AreNamedInTurn (linkings scenario.actions) 2 4
  pub together : Together scenario 0 2
  pub group : IsWholeGroup scenario (0 ∷ 2 ∷ [])
  pub not_alone : MayCome scenario 2 [] (Starts (0 ∷ []) (0 ∷ [])) → ⊥
  pub both : MayCome scenario 2 [] (Starts (0 ∷ 2 ∷ []) (0 ∷ 1 ∷ []))
  -- the first action comes before the second and, as they start together, before the second's partner; its own partner
  -- may run on
  pub order : Must scenario 0 1
  pub order_of_partner : Must scenario 0 3
  pub partner_runs_on : Must scenario 2 1 → ⊥
  pub trace : IsLegalTrace scenario 2 in_pairs
  pub whole : IsWhole scenario in_pairs
  -- An end that a bind fixes may be taken by another action whose turn comes before; then the list is dead. The word of
  -- seed 1 at place 4 leaves 0 at 2 options.
  pub bound_options : places bound 2 1 1 (0 ∷ 0 ∷ 0 ∷ 0 ∷ 1 ∷ 0 ∷ []) ≡ Some 1 ∷ Some 1 ∷ Some 1 ∷ Some 1 ∷ Some 2 ∷ Some 1 ∷ []
  pub taken_end : read bound 2 1 1 (0 ∷ 0 ∷ 0 ∷ 0 ∷ 0 ∷ []) ≡ Dead
  pub kept_end : read bound 2 1 1 (0 ∷ 0 ∷ 0 ∷ 0 ∷ 1 ∷ 0 ∷ []) ≡ Whole kept
