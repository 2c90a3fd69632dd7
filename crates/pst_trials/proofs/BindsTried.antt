-- Facts: A producer and a consumer whose ends an activity binds, in parallel and in any order.
use Rattle.std.specs.Prelude.{◌≡◌, List, [], ◌∷◌, Some, None}
use Rattle.pst_model.specs.declared.object.ObjectKind.TheVariants.{Buffer}
use Rattle.pst_model.specs.ActivityTree.{Parallel, Schedule}
use Rattle.pst_model.specs.ModelTree.{ModelTree}
use Rattle.pst_scen.specs.declared.tree.Fill.{Fill}
use Rattle.pst_scen.specs.declared.tree.Fill.TheVariants as fill
use Rattle.pst_scen.specs.declared.act.Flow.TheVariants.{BufferIn, BufferOut}
use Rattle.pst_scen.specs.declared.act.Link.TheVariants.{Nothing, Act}
use Rattle.pst_scen.specs.declared.scenario.Scenario.{Scenario}
use Rattle.pst_scen.specs.declared.event.Event.{Event}
use Rattle.pst_scen.specs.declared.event.Event.TheVariants.{End}
use Rattle.pst_legal.specs.Binds.{bounds_of, fixed_source}
use Rattle.pst_scen.specs.Order.{Must}
use Rattle.pst_scen.specs.Trace.{IsLegalTrace, IsWhole}
use Rattle.pst_scen.specs.Plans.{KeepsParallel, StandParallel}
use Rattle.pst_legal.specs.Legal.{Legal}
use Rattle.pst_legal.specs.ValueReading.{Whole, read}
use Rattle.pst_trials.specs.Parts.{act_of, filled, scenario_of, start, places}
use Rattle.std.proofs.Common.{inl, false, refl, lit<, lit≤, true≢false}
use Rattle.pst_scen.specs.declared.act.Act.{Act as Acting}
use Rattle.pst_legal.specs.Growing.{nothing_yet, most_levels, Leaf}
use Rattle.pst_legal.specs.Pieces.{Action, IsActionWay}
use Rattle.pst_scen.specs.Tree.{AtTop}
use Rattle.pst_scen.specs.Order.{Directly, Itself}
use Rattle.pst_scen.specs.Trace.{Starts, Ends}
use Rattle.pst_scen.specs.Laws.{IsPreorder}
use Rattle.pst_scen.specs.Scenarios.{IsScenario}
use Rattle.pst_legal.specs.Fits.{Fills, Fits, IsActOf, IsReferenceOf}
use Rattle.pst_legal.specs.Supplied.{Supplied}
use Rattle.pst_trials.proofs.Cases.{each, none_some, false_true}
use Rattle.pst_trials.proofs.Branches.{each_parallel}
use Rattle.pst_trials.proofs.Traces.{preorder_by, runs_by, starts_next, awaits, whole_by}
use Rattle.pst_trials.proofs.Legality.{differ, in_preorder, are_linked, no_firsts, no_previous, no_chains, sources_by, bounds_by, inferred_by, none_inline, HoldsAt, holds_by, none_clashes}
use Rattle.pst_trials.specs.Parts.{input, output}
use Rattle.rand_core.specs.Steps.{u32_at, word_bytes}
use Rattle.rand_core.specs.Pcg32Seed.{pcg32_seed}
use Rattle.pst_rng.specs.Words.{generator_at}
use Rattle.pst_expr.specs.Spans.{numbers_from}
use Rattle.pst_trials.specs.Binds.{model, both, scenario, choices, producer_first}
use Rattle.pst_legal.specs.Shape.{HasShape, HasReferenceShape}
use Rattle.pst_trials.proofs.Legality.{shape_by}
use Rattle.pst_trials.proofs.Cases.{each_both}
use Rattle.pst_scen.specs.Order.{Buffer}

pub joined : bounds_of (model (Parallel both)) (scenario fill.Parallel).nodes ≡ record { from_act = 0; from_reference = 0; to_act = 1; to_reference = 0 } ∷ []
unfolding generator_at u32_at pcg32_seed word_bytes numbers_from
joined = refl

pub fixed : fixed_source (bounds_of (model (Parallel both)) (scenario fill.Parallel).nodes) 1 0 BufferIn ≡ Some (0, 0)
unfolding generator_at u32_at pcg32_seed word_bytes numbers_from
fixed = refl

pub not_of_output : fixed_source (bounds_of (model (Parallel both)) (scenario fill.Parallel).nodes) 0 0 BufferOut ≡ None
unfolding generator_at u32_at pcg32_seed word_bytes numbers_from
not_of_output = refl

pub reads_parallel : read (model (Parallel both)) 2 1 0 choices ≡ Whole (scenario fill.Parallel)
unfolding generator_at u32_at pcg32_seed word_bytes numbers_from
reads_parallel = refl

pub reads_any_order : read (model (Schedule both)) 2 1 0 choices ≡ Whole (scenario fill.Schedule)
unfolding generator_at u32_at pcg32_seed word_bytes numbers_from
reads_any_order = refl

pub one_option : places (model (Schedule both)) 2 1 0 choices ≡ Some 1 ∷ Some 1 ∷ Some 1 ∷ Some 1 ∷ []
unfolding generator_at u32_at pcg32_seed word_bytes numbers_from
one_option = refl

pub one_option_still : places (model (Schedule both)) 2 1 1 choices ≡ Some 1 ∷ Some 1 ∷ Some 1 ∷ Some 1 ∷ []
unfolding generator_at u32_at pcg32_seed word_bytes numbers_from
one_option_still = refl

-- ---- the order

pub in_order : (block : Fill) → IsPreorder (scenario block).nodes
in_order block = preorder_by (scenario block).nodes (refl, (refl, (refl, (refl, tt))))

pub order : Must (scenario fill.Parallel) 0 1
order = Directly 0 1 1 (differ 0 1 refl, Buffer (record { pool = 0; output = 0; input = record { act = _; reference = 0; filled = _; is_act = refl; is = refl; of_flow = refl; of_pool = refl; linked = refl } })) Itself

pub stand : StandParallel (scenario fill.Parallel) 0 1
stand = record {
  block = 1;
  node = _;
  is = refl;
  parallel = tt;
  a_branch = 2;
  b_branch = 3;
  different = differ 2 3 refl;
  a_child = record { node = _; is = refl; in_parent = refl };
  b_child = record { node = _; is = refl; in_parent = refl };
  a_inside = record { leaf = 2; node = _; is = refl; of_act = refl; under = AtTop };
  b_inside = record { leaf = 3; node = _; is = refl; of_act = refl; under = AtTop };
}

pub parallel_is_ordered : KeepsParallel (scenario fill.Parallel) → ⊥
parallel_is_ordered keeps = keeps.unordered 0 1 stand order

pub parallel_is_illegal : Legal (model (Parallel both)) 2 (scenario fill.Parallel) → ⊥
parallel_is_illegal legal = parallel_is_ordered legal.parallel

-- ---- the trace

abbrev s : Scenario
s = scenario fill.Schedule

abbrev m : ModelTree
m = model (Schedule both)

abbrev after_first : List Event
after_first = start 0 0 ∷ End 0 ∷ []

pub trace : IsLegalTrace s 1 producer_first
trace = record {
  blocks = Ends 1 ∷ Starts (1 ∷ []) (0 ∷ []) ∷ Ends 0 ∷ Starts (0 ∷ []) (0 ∷ []) ∷ [];
  are = refl;
  legal = (
    (
      (
        (
          tt,
          starts_next s 1 [] 0 0 tt (lit< tt) (lit< tt) tt (awaits s [] 0 (in_order fill.Schedule) tt) (tt, tt) (tt, (tt, tt)),
        ),
        runs_by (start 0 0 ∷ []) 0 0 false (0, lit< tt, refl) (tt, tt),
      ),
      starts_next s 1 after_first 1 0 tt (lit< tt) (lit< tt) ((tt, inl (1, lit< tt, refl)), (tt, tt)) (awaits s after_first 1 (in_order fill.Schedule) tt) ((1, lit< tt, refl), tt) (tt, (tt, tt)),
    ),
    runs_by (start 0 0 ∷ End 0 ∷ start 1 0 ∷ []) 1 0 false (2, lit< tt, refl) (tt, (tt, (tt, tt))),
  );
}

pub whole : IsWhole s producer_first
whole = whole_by s producer_first ((1, lit< tt, refl), ((3, lit< tt, refl), tt))

-- ---- a legal scenario

is_scenario : IsScenario s
is_scenario = record {
  nodes = in_preorder s.nodes (tt, (refl, (refl, (refl, tt))));
  leaves = record { numbers = refl; nodes = refl };
  links = are_linked s.actions (((tt, tt), tt), (((tt, (_, refl, tt)), tt), tt));
  firsts = no_firsts 0 s.nodes s.actions (refl, (refl, tt));
}

producer_way : IsActionWay m 0 (Some 0) (Leaf 0 0) []
producer_way = record { type = _; is = refl; instance = 0; inside = (0, lit< tt, refl); content = (refl, refl) }

consumer_way : IsActionWay m 1 (Some 0) (Leaf 1 0) []
consumer_way = record { type = _; is = refl; instance = 0; inside = (0, lit< tt, refl); content = (refl, refl) }

-- the scenario before its sources are read
abbrev tree : Scenario
tree = scenario_of 0 s.nodes (act_of 0 (Some 2) (filled BufferOut [] Nothing ∷ []) ∷ act_of 1 (Some 3) (filled BufferIn [] Nothing ∷ []) ∷ []) []

fills : Fills m most_levels (Action 2 None) None (nothing_yet 0) tree
fills = (
  _,
  _,
  record { type = _; is = refl; instance = 0; inside = (0, lit< tt, refl); content = ([], tt, refl, refl) },
  (_, (_, _, (refl, refl), (_, (_, _, producer_way, refl), (_, (_, _, consumer_way, refl), refl))), refl),
)

abbrev producer : Acting
producer = act_of 0 (Some 2) (filled BufferOut [] Nothing ∷ [])

abbrev consumer : Acting
consumer = act_of 1 (Some 3) (filled BufferIn [] (Act 0 0) ∷ [])

producer_reference : IsReferenceOf m producer 0 (filled BufferOut [] Nothing)
producer_reference = record { reference = output 0; is = refl; pool = refl; flow = refl; output = λ e. tt; input = λ e. absurd (true≢false e) }

consumer_reference : IsReferenceOf m consumer 0 (filled BufferIn [] (Act 0 0))
consumer_reference = record { reference = input 0; is = refl; pool = refl; flow = refl; output = λ e. absurd (false_true e); input = λ e. refl }

is_producer : IsActOf m producer
is_producer = record {
  type = _;
  is = refl;
  fields = tt;
  many_references = refl;
  references = each (IsReferenceOf m producer) producer.references (producer_reference, tt);
  many_claims = refl;
  claims = λ k claim claimed is. absurd (none_some claim is);
}

is_consumer : IsActOf m consumer
is_consumer = record {
  type = _;
  is = refl;
  fields = tt;
  many_references = refl;
  references = each (IsReferenceOf m consumer) consumer.references (consumer_reference, tt);
  many_claims = refl;
  claims = λ k claim claimed is. absurd (none_some claim is);
}

fits : Fits m 2 s
fits = record {
  tree = record { tree = tree; fills = fills; nodes = refl; leaves = (record { action = refl; instance = refl; node = refl }, (record { action = refl; instance = refl; node = refl }, tt)) };
  values = record { acts = each (λ a act. IsActOf m act) s.actions (is_producer, (is_consumer, tt)); firsts = λ k first is. absurd (none_some first is) };
  within = record { few_nodes = lit≤ tt; few_acts = lit≤ tt };
}

supplied : Supplied m s
supplied = record {
  sources = sources_by s.actions ((tt, tt), (((refl, (_, refl, refl, refl)), tt), tt));
  previous = no_previous s.actions ((refl, tt), ((refl, tt), tt));
  chains = no_chains s.actions ((refl, tt), ((refl, tt), tt));
  bound = bounds_by (bounds_of m s.nodes) s.actions ((tt, tt), ((refl, tt), tt));
  inferred = inferred_by m s.actions (tt, (tt, tt));
  numbered = (lit< tt, lit< tt, refl);
}

shape : HasShape m s
shape = shape_by m s (record { type = _; is = refl; activity = _; compound = refl; inside = lit< tt; many = refl }, (tt, (tt, (tt, tt))))
    (record { type = _; is = refl; atomic = refl; inside = lit< tt; many_fields = refl; many_references = refl; references = each_both (λ k r f. HasReferenceShape m r f) (output 0 ∷ []) (producer).references (record { pool = lit< tt; output = λ e. record { type = _; is = refl; many = refl }; input = λ e. absurd (true≢false e) }, tt); many_claims = refl; claims = λ k claim claimed is. absurd (none_some claim is) }, (record { type = _; is = refl; atomic = refl; inside = lit< tt; many_fields = refl; many_references = refl; references = each_both (λ k r f. HasReferenceShape m r f) (input 0 ∷ []) (consumer).references (record { pool = lit< tt; output = λ e. absurd (false_true e); input = λ e. refl }, tt); many_claims = refl; claims = λ k claim claimed is. absurd (none_some claim is) }, tt)) tt

pub legal : Legal m 2 s
legal = record {
  scenario = is_scenario;
  shape = shape;
  fits = fits;
  supplied = supplied;
  holds = holds_by m s (record {
    inlines = none_inline HoldsAt m s (tt, (tt, (((refl, (refl, tt)), tt), tt)));
    compounds = (tt, (tt, (tt, (tt, tt))));
    acts = (tt, (tt, tt));
    claims = (tt, (tt, tt));
    outputs = ((tt, tt), ((tt, tt), tt));
    firsts = ((tt, tt), ((tt, tt), tt));
  });
  parallel = record {
    unordered = each_parallel (λ a b. Must s a b → ⊥) s (in_order fill.Schedule) tt;
    undisputed = λ a b stand. absurd (each_parallel (λ a b. ⊥) s (in_order fill.Schedule) tt a b stand);
  };
  alone = λ a below. none_clashes s (tt, (tt, tt)) a;
  runs = record { lanes = 1; trace = producer_first; legal = trace; whole = whole };
}
