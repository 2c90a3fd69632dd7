-- Facts: A consumer of a buffer, whose producer is inferred.
use Rattle.std.specs.Prelude.{◌≡◌, ℕ, List, [], ◌∷◌, Some, None}
use Rattle.pst_model.specs.declared.object.ObjectKind.TheVariants.{Buffer}
use Rattle.pst_scen.specs.declared.act.Flow.TheVariants.{BufferIn, BufferOut}
use Rattle.pst_scen.specs.declared.act.Link.TheVariants.{Nothing, Act}
use Rattle.pst_scen.specs.declared.scenario.Scenario.{Scenario}
use Rattle.pst_scen.specs.declared.event.Event.TheVariants.{End}
use Rattle.pst_scen.specs.Order.{Must}
use Rattle.pst_scen.specs.Trace.{MayCome, Starts, IsLegalTrace, IsWhole}
use Rattle.pst_legal.specs.Supplied.{AreNamedInTurn, linkings}
use Rattle.pst_legal.specs.Legal.{Legal}
use Rattle.pst_legal.specs.ValueReading.{Dead, Whole, read}
use Rattle.pst_trials.specs.Parts.{input, output, act_of, filled, scenario_of, start, places}
use Rattle.pst_legal.specs.Reading.{Reading, Reader, Stops, then_read}
use Rattle.pst_legal.specs.ValueReading.{answer_of}
use Rattle.std.proofs.Common.{Bool, if◌then◌else◌, le-ltb, ◌≤◌, nat_lt, ◌<◌, inl, false, true, refl, lit<, lit≤, true≢false, arith, not-suc-le-zero}
use Rattle.pst_scen.specs.declared.act.Act.{Act as Acting}
use Rattle.pst_legal.specs.Growing.{nothing_yet, most_levels, Leaf}
use Rattle.pst_legal.specs.Pieces.{Action, IsActionWay}
use Rattle.pst_scen.specs.Flows.{Feeds}
use Rattle.pst_scen.specs.Order.{Directly, Itself}
use Rattle.pst_scen.specs.Trace.{Ends}
use Rattle.pst_scen.specs.Laws.{IsPreorder}
use Rattle.pst_scen.specs.Scenarios.{IsScenario}
use Rattle.pst_legal.specs.Fits.{Fills, Fits, IsActOf, IsReferenceOf}
use Rattle.pst_legal.specs.Supplied.{Supplied}
use Rattle.pst_legal.specs.Binds.{bounds_of}
use Rattle.pst_trials.proofs.Cases.{each, none_some, false_true}
use Rattle.pst_trials.proofs.Branches.{each_parallel}
use Rattle.pst_trials.proofs.Orders.{each_must_alone, each_cause, each_before}
use Rattle.pst_trials.proofs.Traces.{preorder_by, here, runs_by, starts_next, awaits, whole_by}
use Rattle.pst_trials.proofs.Legality.{differ, in_preorder, are_linked, no_firsts, no_previous, no_chains, sources_by, bounds_by, inferred_by, none_inline, HoldsAt, holds_by, none_clashes}
use Rattle.rand_core.specs.Steps.{u32_at, word_bytes}
use Rattle.rand_core.specs.Pcg32Seed.{pcg32_seed}
use Rattle.pst_rng.specs.Words.{generator_at}
use Rattle.pst_expr.specs.Spans.{numbers_from}
use Rattle.pst_trials.specs.Inference.{model, scenario, producer_first}
use Rattle.pst_legal.specs.Shape.{HasShape, HasReferenceShape}
use Rattle.pst_trials.proofs.Legality.{shape_by}
use Rattle.pst_trials.proofs.Cases.{each_both}
use Rattle.pst_scen.specs.Order.{Buffer}

pub reads : read model 2 1 1 (0 ∷ 0 ∷ 0 ∷ []) ≡ Whole scenario
unfolding generator_at u32_at pcg32_seed word_bytes numbers_from
reads = refl

pub one_option_each : places model 2 1 1 (0 ∷ 0 ∷ 0 ∷ []) ≡ Some 1 ∷ Some 1 ∷ Some 1 ∷ []
unfolding generator_at u32_at pcg32_seed word_bytes numbers_from
one_option_each = refl

-- ---- the order

dead_if : (test : Bool) (reading : Reading) (go : Reader) → test ≡ false → answer_of (then_read (if test then reading else Stops) go) ≡ Dead
dead_if false reading go is = refl
dead_if true reading go is = absurd (true≢false is)

pub dead_without : (more : List ℕ) → read model 2 1 0 (0 ∷ 0 ∷ more) ≡ Dead
unfolding generator_at u32_at pcg32_seed word_bytes numbers_from
dead_without [] = refl
dead_without (digit ∷ more) = dead_if (nat_lt digit 0) _ _ (let least : 0 ≤ digit = omega arith in le-ltb digit 0 least)

pub numbered : AreNamedInTurn (linkings scenario.actions) 1 2
numbered = (lit< tt, lit< tt, refl)

in_order : IsPreorder scenario.nodes
in_order = preorder_by scenario.nodes (refl, (refl, tt))

feeds : Feeds scenario 1 0
feeds = record { pool = 0; output = 0; input = record { act = _; reference = 0; filled = _; is_act = refl; is = refl; of_flow = refl; of_pool = refl; linked = refl } }

pub order : Must scenario 1 0
order = Directly 1 0 0 (differ 1 0 refl, Buffer feeds) Itself

downwards : (a b : ℕ) → Must scenario a b → b < a
downwards =
    each_must_alone (λ a b. b < a) scenario tt (λ a c b first second. let one : c < a = first in let two : b < c = second in omega arith)
    (each_cause (λ a b. b < a) scenario (each_before (λ a b. b < a) scenario in_order tt) (lit< tt, tt))

pub not_back : Must scenario 0 1 → ⊥
not_back must = not-suc-le-zero (downwards 0 1 must)

pub consumer_waits : MayCome scenario 1 [] (Starts (0 ∷ []) (0 ∷ [])) → ⊥
consumer_waits may = not-suc-le-zero (may.buffer 1 0 (here 0 []) feeds).1

-- ---- the trace

pub trace : IsLegalTrace scenario 1 producer_first
trace = record {
  blocks = Ends 0 ∷ Starts (0 ∷ []) (0 ∷ []) ∷ Ends 1 ∷ Starts (1 ∷ []) (0 ∷ []) ∷ [];
  are = refl;
  legal = (
    (
      (
        (
          tt,
          starts_next scenario 1 [] 1 0 tt (lit< tt) (lit< tt) tt (awaits scenario [] 1 in_order tt) (tt, tt) (tt, (tt, tt)),
        ),
        runs_by (start 1 0 ∷ []) 1 0 false (0, lit< tt, refl) (tt, tt),
      ),
      starts_next scenario 1 (start 1 0 ∷ End 1 ∷ []) 0 0 tt (lit< tt) (lit< tt) ((tt, inl (1, lit< tt, refl)), (tt, tt)) (awaits scenario (start 1 0 ∷ End 1 ∷ []) 0 in_order tt) ((1, lit< tt, refl), tt) (tt, (tt, tt)),
    ),
    runs_by (start 1 0 ∷ End 1 ∷ start 0 0 ∷ []) 0 0 false (2, lit< tt, refl) (tt, (tt, (tt, tt))),
  );
}

pub whole : IsWhole scenario producer_first
whole = whole_by scenario producer_first ((3, lit< tt, refl), ((1, lit< tt, refl), tt))

-- ---- a legal scenario

is_scenario : IsScenario scenario
is_scenario = record {
  nodes = in_preorder scenario.nodes (tt, (refl, tt));
  leaves = record { numbers = refl; nodes = refl };
  links = are_linked scenario.actions (((tt, (_, refl, tt)), tt), (((tt, tt), tt), tt));
  firsts = no_firsts 1 scenario.nodes scenario.actions (refl, (refl, tt));
}

consumer_way : IsActionWay model 1 (Some 0) (Leaf 1 0) []
consumer_way = record { type = _; is = refl; instance = 0; inside = (0, lit< tt, refl); content = (refl, refl) }

-- the scenario before its sources are read
abbrev tree : Scenario
tree = scenario_of 1 scenario.nodes (act_of 1 (Some 1) (filled BufferIn [] Nothing ∷ []) ∷ []) []

fills : Fills model most_levels (Action 2 None) None (nothing_yet 1) tree
fills = (
  _,
  _,
  record { type = _; is = refl; instance = 0; inside = (0, lit< tt, refl); content = ([], tt, refl, refl) },
  (_, (_, _, consumer_way, refl), refl),
)

abbrev consumer : Acting
consumer = act_of 1 (Some 1) (filled BufferIn [] (Act 1 0) ∷ [])

abbrev producer : Acting
producer = act_of 0 None (filled BufferOut [] Nothing ∷ [])

consumer_reference : IsReferenceOf model consumer 0 (filled BufferIn [] (Act 1 0))
consumer_reference = record { reference = input 0; is = refl; pool = refl; flow = refl; output = λ e. absurd (false_true e); input = λ e. refl }

producer_reference : IsReferenceOf model producer 0 (filled BufferOut [] Nothing)
producer_reference = record { reference = output 0; is = refl; pool = refl; flow = refl; output = λ e. tt; input = λ e. absurd (true≢false e) }

is_consumer : IsActOf model consumer
is_consumer = record {
  type = _;
  is = refl;
  fields = tt;
  many_references = refl;
  references = each (IsReferenceOf model consumer) consumer.references (consumer_reference, tt);
  many_claims = refl;
  claims = λ k claim claimed is. absurd (none_some claim is);
}

is_producer : IsActOf model producer
is_producer = record {
  type = _;
  is = refl;
  fields = tt;
  many_references = refl;
  references = each (IsReferenceOf model producer) producer.references (producer_reference, tt);
  many_claims = refl;
  claims = λ k claim claimed is. absurd (none_some claim is);
}

fits : Fits model 2 scenario
fits = record {
  tree = record { tree = tree; fills = fills; nodes = refl; leaves = (record { action = refl; instance = refl; node = refl }, tt) };
  values = record { acts = each (λ a act. IsActOf model act) scenario.actions (is_consumer, (is_producer, tt)); firsts = λ k first is. absurd (none_some first is) };
  within = record { few_nodes = lit≤ tt; few_acts = lit≤ tt };
}

supplied : Supplied model scenario
supplied = record {
  sources = sources_by scenario.actions (((refl, (_, refl, refl, refl)), tt), ((tt, tt), tt));
  previous = no_previous scenario.actions ((refl, tt), ((refl, tt), tt));
  chains = no_chains scenario.actions ((refl, tt), ((refl, tt), tt));
  bound = bounds_by (bounds_of model scenario.nodes) scenario.actions ((tt, tt), ((tt, tt), tt));
  inferred = inferred_by model scenario.actions (tt, (record { type = _; is = refl; atomic = refl; concrete = refl; inside = (0, lit< tt, refl) }, tt));
  numbered = numbered;
}

shape : HasShape model scenario
shape = shape_by model scenario (record { type = _; is = refl; activity = _; compound = refl; inside = lit< tt; many = refl }, (tt, tt))
    (record { type = _; is = refl; atomic = refl; inside = lit< tt; many_fields = refl; many_references = refl; references = each_both (λ k r f. HasReferenceShape model r f) (input 0 ∷ []) (consumer).references (record { pool = lit< tt; output = λ e. absurd (false_true e); input = λ e. refl }, tt); many_claims = refl; claims = λ k claim claimed is. absurd (none_some claim is) }, (record { type = _; is = refl; atomic = refl; inside = lit< tt; many_fields = refl; many_references = refl; references = each_both (λ k r f. HasReferenceShape model r f) (output 0 ∷ []) (producer).references (record { pool = lit< tt; output = λ e. record { type = _; is = refl; many = refl }; input = λ e. absurd (true≢false e) }, tt); many_claims = refl; claims = λ k claim claimed is. absurd (none_some claim is) }, tt)) tt

pub legal : Legal model 2 scenario
legal = record {
  scenario = is_scenario;
  shape = shape;
  fits = fits;
  supplied = supplied;
  holds = holds_by model scenario (record {
    inlines = none_inline HoldsAt model scenario (tt, (tt, ((refl, tt), tt)));
    compounds = (tt, (tt, tt));
    acts = (tt, (tt, tt));
    claims = (tt, (tt, tt));
    outputs = ((tt, tt), ((tt, tt), tt));
    firsts = ((tt, tt), ((tt, tt), tt));
  });
  parallel = record {
    unordered = each_parallel (λ a b. Must scenario a b → ⊥) scenario in_order tt;
    undisputed = λ a b stand. absurd (each_parallel (λ a b. ⊥) scenario in_order tt a b stand);
  };
  alone = λ a below. none_clashes scenario (tt, (tt, tt)) a;
  runs = record { lanes = 1; trace = producer_first; legal = trace; whole = whole };
}
