-- Facts: A state with a first object, whose writer is inferred; and two writers, of which a reader wants the first one's object.
use Rattle.std.specs.Prelude.{◌≡◌, ℕ, pos, [], ◌∷◌, Bool, true, false, Some, None}
use Rattle.pst_model.specs.ConstraintTree.{Own, Object, Prev, IsFirst}
use Rattle.pst_scen.specs.declared.act.Filled.{Filled}
use Rattle.pst_scen.specs.declared.act.Flow.TheVariants.{StateIn, StateOut}
use Rattle.pst_scen.specs.declared.act.Link.TheVariants as link
use Rattle.pst_scen.specs.declared.scenario.Scenario.{Scenario}
use Rattle.pst_scen.specs.declared.event.Event.TheVariants.{End}
use Rattle.pst_legal.specs.Standing.{Known, Lacking}
use Rattle.pst_legal.specs.Slots.{act_slot, output_slot, first_object_slot}
use Rattle.pst_legal.specs.Constraints.{HasConstraint}
use Rattle.pst_scen.specs.Order.{Must}
use Rattle.pst_scen.specs.Conflicts.{Conflict}
use Rattle.pst_scen.specs.Trace.{MayCome, Starts, IsLegalTrace, IsWhole, last_writer}
use Rattle.pst_legal.specs.Legal.{Legal}
use Rattle.pst_legal.specs.ValueReading.{Whole, read}
use Rattle.pst_trials.specs.Parts.{field_to, input, output, act_of, filled, scenario_of, start, places}
use Rattle.std.proofs.Common.{refl}
use Rattle.rand_core.specs.Steps.{u32_at, word_bytes}
use Rattle.rand_core.specs.Pcg32Seed.{pcg32_seed}
use Rattle.pst_rng.specs.Words.{generator_at}
use Rattle.pst_expr.specs.Spans.{numbers_from}
use Rattle.pst_trials.specs.States.{writers, at_first, one_more, is_one, state, written, reader, scenario, one, filling, choices, of_written, of_first, of_reader, writer_first, replaced}
use Rattle.pst_scen.specs.Conflicts.{Uses, SecondWrites}
use Rattle.pst_scen.specs.Order.{Source, Replaced}
use Rattle.pst_scen.specs.Flows.{Reads, Writes}
use Rattle.pst_scen.specs.declared.act.Flow.{Flow}
use Rattle.pst_scen.specs.declared.act.Link.{Link}
use Rattle.pst_legal.specs.Constraints.{OfOutput, OfFirst, OfAct}
use Rattle.pst_legal.specs.Pieces.{IsValueOf}
use Rattle.pst_legal.specs.Types.{pool_object}
use Rattle.pst_legal.specs.Fits.{AreObjectValues}
use Rattle.pst_scen.specs.Scenarios.{reference_at}
use Rattle.pst_legal.specs.Supplied.{ArePreviousOnce, ComesFromFirst, AtFirst}
use Rattle.pst_trials.proofs.Cases.{each_reference}
use lib.Signed.{le_z, le_z_yes}
use Rattle.std.proofs.Common.{T, ap}
use Rattle.std.proofs.Common.{◌<◌, inl, inr, sym, subst, lit<, lit≤, true≢false, arith, Contains}
use Rattle.pst_scen.specs.declared.act.Act.{Act as Acting}
use Rattle.pst_legal.specs.Growing.{nothing_yet, most_levels, Leaf}
use Rattle.pst_legal.specs.Pieces.{Action, IsActionWay}
use Rattle.pst_scen.specs.Tree.{AtTop}
use Rattle.pst_scen.specs.Flows.{Refers}
use Rattle.pst_scen.specs.Order.{Before, Sequence, Directly, Through, Itself}
use Rattle.pst_scen.specs.Trace.{Ends}
use Rattle.pst_scen.specs.Laws.{IsPreorder}
use Rattle.pst_scen.specs.Scenarios.{IsScenario}
use Rattle.pst_legal.specs.Fits.{Fills, Fits, IsActOf, IsReferenceOf}
use Rattle.pst_legal.specs.Supplied.{Supplied}
use Rattle.pst_legal.specs.Binds.{bounds_of}
use Rattle.pst_trials.proofs.Cases.{each, each_contained, none_some, false_true}
use Rattle.pst_trials.proofs.Branches.{each_parallel}
use Rattle.pst_trials.proofs.Orders.{each_refers}
use Rattle.pst_trials.proofs.Traces.{preorder_by, here, runs_by, starts_next, awaits, whole_by, no_joins}
use Rattle.pst_trials.proofs.Legality.{differ, in_preorder, are_linked, sources_by, bounds_by, inferred_by, none_inline, HoldsAt, holds_by, none_clashes}
use Rattle.pst_legal.specs.Shape.{HasShape, HasReferenceShape}
use Rattle.pst_trials.proofs.Legality.{shape_by}
use Rattle.pst_trials.proofs.Cases.{each_both}
use Rattle.pst_legal.specs.Supplied.{AfterWriter}
use Rattle.pst_trials.specs.States.{two}
use Rattle.std.proofs.Common.{List}

pub reads : read one 2 1 1 choices ≡ Whole filling
unfolding generator_at u32_at pcg32_seed word_bytes numbers_from
reads = refl

pub options : places one 2 1 1 choices ≡ Some 1 ∷ Some 1 ∷ Some 2 ∷ Some 1 ∷ Some 4 ∷ Some 4 ∷ []
unfolding generator_at u32_at pcg32_seed word_bytes numbers_from
options = refl

pub written_isn't_first : output_slot one filling 1 0 (written (pos 1)) IsFirst ≡ Known (pos 0)
unfolding generator_at u32_at pcg32_seed word_bytes numbers_from
written_isn't_first = refl

pub written_follows : output_slot one filling 1 0 (written (pos 1)) (Prev 0) ≡ Known (pos 0)
unfolding generator_at u32_at pcg32_seed word_bytes numbers_from
written_follows = refl

pub written_value : output_slot one filling 1 0 (written (pos 1)) (Own 0) ≡ Known (pos 1)
unfolding generator_at u32_at pcg32_seed word_bytes numbers_from
written_value = refl

pub first_is_first : first_object_slot one filling 0 IsFirst ≡ Known (pos 1)
unfolding generator_at u32_at pcg32_seed word_bytes numbers_from
first_is_first = refl

pub first_follows_nothing : first_object_slot one filling 0 (Prev 0) ≡ Lacking
unfolding generator_at u32_at pcg32_seed word_bytes numbers_from
first_follows_nothing = refl

pub read_value : act_slot one filling 0 reader (Object 0 0) ≡ Known (pos 1)
unfolding generator_at u32_at pcg32_seed word_bytes numbers_from
read_value = refl

pub written_by_one : of_written one_more (pos 0) (pos 1) ≡ Some (pos 1)
unfolding generator_at u32_at pcg32_seed word_bytes numbers_from
written_by_one = refl

pub written_by_two : of_written one_more (pos 0) (pos 2) ≡ Some (pos 0)
unfolding generator_at u32_at pcg32_seed word_bytes numbers_from
written_by_two = refl

pub written_as_first : of_written at_first (pos 0) (pos 1) ≡ Some (pos 1)
unfolding generator_at u32_at pcg32_seed word_bytes numbers_from
written_as_first = refl

pub first_at_zero : of_first at_first (pos 0) (pos 1) ≡ Some (pos 1)
unfolding generator_at u32_at pcg32_seed word_bytes numbers_from
first_at_zero = refl

pub first_at_one : of_first at_first (pos 1) (pos 2) ≡ Some (pos 0)
unfolding generator_at u32_at pcg32_seed word_bytes numbers_from
first_at_one = refl

pub first_has_no_step : of_first one_more (pos 0) (pos 1) ≡ Some (pos 1)
unfolding generator_at u32_at pcg32_seed word_bytes numbers_from
first_has_no_step = refl

pub read_one : of_reader is_one (pos 0) (pos 1) ≡ Some (pos 1)
unfolding generator_at u32_at pcg32_seed word_bytes numbers_from
read_one = refl

pub read_two : of_reader is_one (pos 0) (pos 2) ≡ Some (pos 0)
unfolding generator_at u32_at pcg32_seed word_bytes numbers_from
read_two = refl

pub no_writer_yet : last_writer filling 0 (start 1 0 ∷ []) ≡ None
unfolding generator_at u32_at pcg32_seed word_bytes numbers_from
no_writer_yet = refl

pub then_the_writer : last_writer filling 0 (start 1 0 ∷ End 1 ∷ []) ≡ Some 1
unfolding generator_at u32_at pcg32_seed word_bytes numbers_from
then_the_writer = refl

-- ---- the constraints of the scenario

pub written_has : HasConstraint one filling one_more (output_slot one filling 1 0 (written (pos 1)))
written_has = OfOutput 1 0 (written (pos 1)) state one_more refl refl refl (1, lit< tt, refl)

pub first_has : HasConstraint one filling at_first (first_object_slot one filling 0)
first_has = OfFirst 1 0 (written (pos 1)) state at_first refl refl refl (0, lit< tt, refl)

pub reader_has : HasConstraint one filling is_one (act_slot one filling 0 reader)
reader_has = OfAct 0 reader _ is_one (record { is = refl; of_type = refl }) (0, lit< tt, refl)

pub another_first : Legal one 2 (scenario (pos 1) (pos 2)) → ⊥
another_first legal = false_true (legal.holds at_first _ (OfFirst 1 0 (written (pos 2)) state at_first refl refl refl (0, lit< tt, refl)))

-- ---- the order

in_order : IsPreorder filling.nodes
in_order = preorder_by filling.nodes (refl, (refl, tt))

reads_object : Reads filling 0 0 (link.Act 1 0)
reads_object = record { act = _; reference = 0; filled = _; is_act = refl; is = refl; of_flow = refl; of_pool = refl; linked = refl }

writes_object : Writes filling 1 0 link.Initial
writes_object = record { act = _; reference = 0; filled = _; is_act = refl; is = refl; of_flow = refl; of_pool = refl; linked = refl }

pub order : Must filling 1 0
order = Directly 1 0 0 (differ 1 0 refl, Source 0 (link.Act 1 0) reads_object (0, refl)) Itself

pub conflict : Conflict filling 0 1
conflict = (differ 0 1 refl, SecondWrites 0 link.Initial (link.Act 1 0, inl reads_object) writes_object)

pub reader_waits : MayCome filling 2 (start 1 0 ∷ []) (Starts (0 ∷ []) (1 ∷ [])) → ⊥
reader_waits may = none_some 1 (may.source 0 0 (link.Act 1 0) (here 0 []) reads_object)

pub reader_not_first : MayCome filling 2 [] (Starts (0 ∷ []) (1 ∷ [])) → ⊥
reader_not_first may = none_some 1 (may.source 0 0 (link.Act 1 0) (here 0 []) reads_object)

-- ---- the trace

pub trace : IsLegalTrace filling 1 writer_first
trace = record {
  blocks = Ends 0 ∷ Starts (0 ∷ []) (0 ∷ []) ∷ Ends 1 ∷ Starts (1 ∷ []) (0 ∷ []) ∷ [];
  are = refl;
  legal = (
    (
      (
        (
          tt,
          starts_next filling 1 [] 1 0 tt (lit< tt) (lit< tt) tt (awaits filling [] 1 in_order tt) (tt, tt) (tt, (refl, tt)),
        ),
        runs_by (start 1 0 ∷ []) 1 0 false (0, lit< tt, refl) (tt, tt),
      ),
      starts_next filling 1 (start 1 0 ∷ End 1 ∷ []) 0 0 tt (lit< tt) (lit< tt) ((tt, inl (1, lit< tt, refl)), (tt, tt)) (awaits filling (start 1 0 ∷ End 1 ∷ []) 0 in_order tt) ((1, lit< tt, refl), tt) (refl, (tt, tt)),
    ),
    runs_by (start 1 0 ∷ End 1 ∷ start 0 0 ∷ []) 0 0 false (2, lit< tt, refl) (tt, (tt, (tt, tt))),
  );
}

pub whole : IsWhole filling writer_first
whole = whole_by filling writer_first ((3, lit< tt, refl), ((1, lit< tt, refl), tt))

-- ---- a legal scenario

is_scenario : IsScenario filling
is_scenario = record {
  nodes = in_preorder filling.nodes (tt, (refl, tt));
  leaves = record { numbers = refl; nodes = refl };
  links = are_linked filling.actions (((tt, (_, refl, tt)), tt), (((tt, tt), tt), tt));
  firsts = record {
    ascending = λ i j d less below. let under : j < 1 = below in absurd (omega arith);
    used = λ pool. (
      (each_contained (λ pool. (a : ℕ) × Uses filling a pool) (0 ∷ []) ((1, (link.Initial, inr writes_object)), tt) pool),
      (λ u. subst (Contains (0 ∷ [])) (sym (pool_of_use u.0 pool u.1)) (here 0 [])),
    );
  };
}
  where
    only : (a : ℕ) (flow : Flow) (pool : ℕ) (to : Link) → Refers filling a flow pool to → pool ≡ 0
    only = each_refers (λ a flow pool to. pool ≡ 0) filling (refl, (refl, tt))

    pool_of_use : (a pool : ℕ) → Uses filling a pool → pool ≡ 0
    pool_of_use a pool (to, inl reads) = only a StateIn pool to reads
    pool_of_use a pool (to, inr writes) = only a StateOut pool to writes

reader_way : IsActionWay one 1 (Some 0) (Leaf 1 0) []
reader_way = record { type = _; is = refl; instance = 0; inside = (0, lit< tt, refl); content = (refl, refl) }

-- the scenario before its sources are read
abbrev tree : Scenario
tree = scenario_of 1 filling.nodes (act_of 1 (Some 1) (filled StateIn [] link.Nothing ∷ []) ∷ []) []

fills : Fills one most_levels (Action 2 None) None (nothing_yet 1) tree
fills = (_, _, record { type = _; is = refl; instance = 0; inside = (0, lit< tt, refl); content = ([], tt, refl, refl) }, (_, (_, _, reader_way, refl), refl))

abbrev writer : Acting
writer = act_of 0 None (written (pos 1) ∷ [])

small : (n : ℕ) → T (le_z (pos 0) (pos n)) → T (le_z (pos n) (pos 3)) → IsValueOf (field_to 3) (pos n)
small n least most = (0, _, lit< tt, refl, (le_z_yes least, le_z_yes most))

reader_reference : IsReferenceOf one reader 0 (filled StateIn [] (link.Act 1 0))
reader_reference = record { reference = input 0; is = refl; pool = refl; flow = refl; output = λ e. absurd (false_true e); input = λ e. refl }

writer_reference : IsReferenceOf one writer 0 (written (pos 1))
writer_reference = record { reference = output 0; is = refl; pool = refl; flow = refl; output = λ e. (small 1 tt tt, tt); input = λ e. absurd (true≢false e) }

is_reader : IsActOf one reader
is_reader = record {
  type = _;
  is = refl;
  fields = tt;
  many_references = refl;
  references = each (IsReferenceOf one reader) reader.references (reader_reference, tt);
  many_claims = refl;
  claims = λ k claim claimed is. absurd (none_some claim is);
}

is_writer : IsActOf one writer
is_writer = record {
  type = _;
  is = refl;
  fields = tt;
  many_references = refl;
  references = each (IsReferenceOf one writer) writer.references (writer_reference, tt);
  many_claims = refl;
  claims = λ k claim claimed is. absurd (none_some claim is);
}

fits : Fits one 2 filling
fits = record {
  tree = record { tree = tree; fills = fills; nodes = refl; leaves = (record { action = refl; instance = refl; node = refl }, tt) };
  values = record {
    acts = each (λ a act. IsActOf one act) filling.actions (is_reader, (is_writer, tt));
    firsts = each (λ k first. AreObjectValues (pool_object one first.pool) first.values) filling.firsts ((small 0 tt tt, tt), tt);
  };
  within = record { few_nodes = lit≤ tt; few_acts = lit≤ tt };
}

not_writer : StateIn ≡ StateOut → ⊥
not_writer is = false_true (ap writes is)
  where
    writes : Flow → Bool
    writes StateOut = true
    writes _ = false

one_writer : ArePreviousOnce filling.actions
one_writer a r b q first other is_first is_other writes also_writes pools links =
    each_reference (λ a r first. (b q : ℕ) (other : Filled) → reference_at filling.actions b q ≡ Some other → first.flow ≡ StateOut → other.flow ≡ StateOut → (a ≡ b) × (r ≡ q)) filling.actions (
      ((λ b q other is_other writes. absurd (not_writer writes)), tt),
      (((λ b q other is_other writes also. each_reference (λ b q other. other.flow ≡ StateOut → (1 ≡ b) × (0 ≡ q)) filling.actions (((λ writes. absurd (not_writer writes)), tt), (((λ writes. (refl, refl)), tt), tt)) b q other is_other also), tt), tt),
    )
    a r first is_first b q other is_other writes also_writes

supplied : Supplied one filling
supplied = record {
  sources = sources_by filling.actions (((refl, (_, refl, refl, refl)), tt), ((tt, tt), tt));
  previous = one_writer;
  chains = each_reference (λ a r filled. filled.flow ≡ StateOut → ComesFromFirst filling.actions a r) filling.actions
      (((λ writes. absurd (not_writer writes)), tt), (((λ writes. AtFirst 1 0 (written (pos 1)) refl refl), tt), tt));
  bound = bounds_by (bounds_of one filling.nodes) filling.actions ((tt, tt), ((tt, tt), tt));
  inferred = inferred_by one filling.actions (tt, (record { type = _; is = refl; atomic = refl; concrete = refl; inside = (0, lit< tt, refl) }, tt));
  numbered = (lit< tt, lit< tt, (lit< tt, tt, refl));
}

shape : HasShape one filling
shape = shape_by one filling (record { type = _; is = refl; activity = _; compound = refl; inside = lit< tt; many = refl }, (tt, tt))
    (record { type = _; is = refl; atomic = refl; inside = lit< tt; many_fields = refl; many_references = refl; references = each_both (λ k r f. HasReferenceShape one r f) (input 0 ∷ []) (reader).references (record { pool = lit< tt; output = λ e. absurd (false_true e); input = λ e. refl }, tt); many_claims = refl; claims = λ k claim claimed is. absurd (none_some claim is) }, (record { type = _; is = refl; atomic = refl; inside = lit< tt; many_fields = refl; many_references = refl; references = each_both (λ k r f. HasReferenceShape one r f) (output 0 ∷ []) (writer).references (record { pool = lit< tt; output = λ e. record { type = _; is = refl; many = refl }; input = λ e. absurd (true≢false e) }, tt); many_claims = refl; claims = λ k claim claimed is. absurd (none_some claim is) }, tt)) ((lit< tt, record { type = _; is = refl; many = refl }), tt)

pub legal : Legal one 2 filling
legal = record {
  scenario = is_scenario;
  shape = shape;
  fits = fits;
  supplied = supplied;
  holds = holds_by one filling (record {
    inlines = none_inline HoldsAt one filling (tt, (tt, ((refl, tt), tt)));
    compounds = (tt, (tt, tt));
    acts = ((refl, tt), (tt, tt));
    claims = (tt, (tt, tt));
    outputs = ((tt, tt), (((refl, (refl, tt)), tt), tt));
    firsts = (((refl, (refl, tt)), tt), (((refl, (refl, tt)), tt), tt));
  });
  parallel = record {
    unordered = each_parallel (λ a b. Must filling a b → ⊥) filling in_order tt;
    undisputed = λ a b stand. absurd (each_parallel (λ a b. ⊥) filling in_order tt a b stand);
  };
  alone = λ a below. none_clashes filling (tt, (tt, tt)) a;
  runs = record { lanes = 1; trace = writer_first; legal = trace; whole = whole };
}

-- ---- a reader of what was replaced

before : Before replaced 1 2
before = record {
  sequence = 0;
  earlier = record {
    is_sequence = record { node = _; is = refl; in_order = tt };
    earlier = 2;
    later = 3;
    earlier_child = record { node = _; is = refl; in_parent = refl };
    later_child = record { node = _; is = refl; in_parent = refl };
    order = lit< tt;
    a_inside = record { leaf = 2; node = _; is = refl; of_act = refl; under = AtTop };
    b_inside = record { leaf = 3; node = _; is = refl; of_act = refl; under = AtTop };
  };
  awaited = no_joins replaced.nodes (refl, (refl, (refl, (refl, tt)))) 0 1;
}

pub reader_before_second : Must replaced 2 1
reader_before_second =
    Directly 2 1 1 (
      differ 2 1 refl,
      Replaced 0 (link.Act 0 0)
          (record { act = _; reference = 0; filled = _; is_act = refl; is = refl; of_flow = refl; of_pool = refl; linked = refl })
          (record { act = _; reference = 0; filled = _; is_act = refl; is = refl; of_flow = refl; of_pool = refl; linked = refl }),
    ) Itself

pub second_before_itself : Must replaced 1 1
second_before_itself = Through 1 2 1 (Directly 1 2 2 (differ 1 2 refl, Sequence before) Itself) reader_before_second

-- ---- chains of writers

pub options_in_chain : places two 2 1 0 (0 ∷ 0 ∷ 0 ∷ 1 ∷ 0 ∷ 0 ∷ 0 ∷ 1 ∷ []) ≡ Some 1 ∷ Some 1 ∷ Some 1 ∷ Some 2 ∷ Some 1 ∷ Some 4 ∷ Some 4 ∷ Some 4 ∷ []
unfolding generator_at u32_at pcg32_seed word_bytes numbers_from
options_in_chain = refl

pub reads_chain : read two 2 1 0 (0 ∷ 0 ∷ 0 ∷ 1 ∷ 0 ∷ 0 ∷ 0 ∷ 1 ∷ []) ≡ Whole (writers link.Initial (link.Act 0 0))
unfolding generator_at u32_at pcg32_seed word_bytes numbers_from
reads_chain = refl

pub options_back : places two 2 1 0 (0 ∷ 0 ∷ 0 ∷ 0 ∷ 1 ∷ []) ≡ Some 1 ∷ Some 1 ∷ Some 1 ∷ Some 2 ∷ Some 2 ∷ []
unfolding generator_at u32_at pcg32_seed word_bytes numbers_from
options_back = refl

pub reads_ring : read two 2 1 0 (0 ∷ 0 ∷ 0 ∷ 0 ∷ 1 ∷ 0 ∷ 0 ∷ 1 ∷ []) ≡ Whole (writers (link.Act 1 0) (link.Act 0 0))
unfolding generator_at u32_at pcg32_seed word_bytes numbers_from
reads_ring = refl

abbrev ring : List Acting
ring = (writers (link.Act 1 0) (link.Act 0 0)).actions

no_first : (a r : ℕ) (filled : Filled) → reference_at ring a r ≡ Some filled → filled.link ≡ link.Initial → ⊥
no_first = each_reference (λ a r filled. filled.link ≡ link.Initial → ⊥) ring (((λ is. cc is), tt), (((λ is. cc is), tt), tt))

no_chain : (a r : ℕ) → ComesFromFirst ring a r → ⊥
no_chain _ _ (AtFirst a r filled is first) = no_first a r filled is first
no_chain _ _ (AfterWriter a r b q filled is to rest) = no_chain b q rest

pub ring_isn't_supplied : Supplied two (writers (link.Act 1 0) (link.Act 0 0)) → ⊥
ring_isn't_supplied supplied = no_chain 0 0 (supplied.chains 0 0 _ refl refl)

pub chain_from_first : ComesFromFirst (writers link.Initial (link.Act 0 0)).actions 1 0
chain_from_first = AfterWriter 1 0 0 0 _ refl refl (AtFirst 0 0 _ refl refl)
