-- Facts: Blocks that wait for some of their branches, or for none.
use Rattle.std.specs.Prelude.{◌≡◌, ℕ, List, [], ◌∷◌, Bool, true, false, Some}
use Rattle.pst_model.specs.declared.activity.Join.TheVariants.{Fixed, Choose}
use Rattle.pst_model.specs.ActivityTree.{Joined}
use Rattle.pst_scen.specs.declared.tree.Fill.{Fill}
use Rattle.pst_scen.specs.declared.tree.Fill.TheVariants as fill
use Rattle.pst_scen.specs.declared.scenario.Scenario.{Scenario}
use Rattle.pst_scen.specs.declared.event.Event.{Event}
use Rattle.pst_scen.specs.declared.event.Event.TheVariants.{End}
use Rattle.pst_legal.specs.Binds.{bounds_of}
use Rattle.pst_scen.specs.Order.{Before, Must}
use Rattle.pst_scen.specs.Trace.{MayCome, Starts, IsLegalTrace, IsWhole}
use Rattle.pst_legal.specs.ValueReading.{Dead, Whole, read}
use Rattle.pst_trials.specs.Parts.{traverse_by, filling, start, places}
use Rattle.std.proofs.Common.{refl}
use Rattle.rand_core.specs.Steps.{u32_at, word_bytes}
use Rattle.rand_core.specs.Pcg32Seed.{pcg32_seed}
use Rattle.pst_rng.specs.Words.{generator_at}
use Rattle.pst_expr.specs.Spans.{numbers_from}
use Rattle.pst_trials.specs.Joins.{model, branches, scenario, choices, third_before_second, across, crossed, second_first}
use Rattle.pst_scen.specs.declared.event.Event.TheVariants.{Start}
use Rattle.pst_scen.specs.Tree.{StandsEarlier, Directly as NearestDirectly}
use Rattle.pst_trials.proofs.Cases.{some_same}
use Rattle.pst_trials.proofs.Branches.{earliers, each_earlier}
use Rattle.pst_trials.proofs.Traces.{each_end}
use Rattle.pst_trials.proofs.Released.{not_released, earlier_ends}
use Rattle.std.proofs.Common.{◌<◌, inl, nat_eq, sym, subst, eq-eqb, lit<, slice_get}
use Rattle.pst_scen.specs.Tree.{AtTop, Below, IsReleased}
use Rattle.pst_scen.specs.Flows.{Feeds}
use Rattle.pst_scen.specs.Order.{Buffer, Sequence, Directly, Through, Itself}
use Rattle.pst_scen.specs.Trace.{Ends, Ended}
use Rattle.pst_scen.specs.Laws.{IsPreorder}
use Rattle.pst_trials.proofs.Cases.{EachOf}
use Rattle.pst_trials.proofs.Orders.{each_before}
use Rattle.pst_trials.proofs.Traces.{When, due, each_below, preorder_by, here, runs_by, starts_next, whole_by, no_joins}
use Rattle.pst_trials.proofs.Legality.{differ}
use Rattle.pst_legal.specs.Growing.{nothing_yet, most_levels, Leaf}
use Rattle.pst_legal.specs.Pieces.{Action, IsActionWay}
use Rattle.pst_legal.specs.Fits.{Fills, FillsRoot}
use Rattle.pst_model.specs.declared.activity.Join.{Join}
use Rattle.pst_legal.specs.Pieces.{IsJoined}
use Rattle.std.proofs.Common.{None}
use Rattle.pst_model.specs.ActivityTree.{StepTree}

pub reads_named : read (model (Joined true (Fixed 1) branches)) 3 1 0 choices ≡ Whole (scenario (fill.Joined true 1))
unfolding generator_at u32_at pcg32_seed word_bytes numbers_from
reads_named = refl

pub chosen_options : places (model (Joined true (Choose 1) branches)) 3 1 0 (0 ∷ 0 ∷ 0 ∷ 0 ∷ 0 ∷ 0 ∷ []) ≡ Some 1 ∷ Some 2 ∷ Some 1 ∷ Some 1 ∷ Some 1 ∷ Some 1 ∷ []
unfolding generator_at u32_at pcg32_seed word_bytes numbers_from
chosen_options = refl

pub chosen_second : read (model (Joined true (Choose 1) branches)) 3 1 0 (0 ∷ 0 ∷ 0 ∷ 0 ∷ 0 ∷ 0 ∷ []) ≡ Whole (scenario (fill.Joined true 2))
unfolding generator_at u32_at pcg32_seed word_bytes numbers_from
chosen_second = refl

pub chosen_first : read (model (Joined true (Choose 1) branches)) 3 1 0 (0 ∷ 1 ∷ 0 ∷ 0 ∷ 0 ∷ 0 ∷ []) ≡ Whole (scenario (fill.Joined true 1))
unfolding generator_at u32_at pcg32_seed word_bytes numbers_from
chosen_first = refl

pub too_many : read (model (Joined true (Choose 3) branches)) 3 1 0 (0 ∷ []) ≡ Dead
unfolding generator_at u32_at pcg32_seed word_bytes numbers_from
too_many = refl

pub crossed_reads : read (across (Joined true (Fixed 0) (filling (traverse_by 1 0 ∷ [])))) 2 1 0 choices ≡ Whole (crossed (fill.Joined true 0))
unfolding generator_at u32_at pcg32_seed word_bytes numbers_from
crossed_reads = refl

pub crossed_bound : bounds_of (across (Joined true (Fixed 0) (filling (traverse_by 1 0 ∷ [])))) (crossed (fill.Joined true 0)).nodes ≡ record { from_act = 1; from_reference = 0; to_act = 0; to_reference = 0 } ∷ []
unfolding generator_at u32_at pcg32_seed word_bytes numbers_from
crossed_bound = refl

-- ---- what is awaited and what is released

abbrev named : Scenario
named = scenario (fill.Joined true 1)

abbrev plain : Scenario
plain = scenario fill.Parallel

in_order : (block : Fill) → IsPreorder (scenario block).nodes
in_order block = preorder_by (scenario block).nodes (refl, (refl, (refl, (refl, (refl, tt)))))

earlier : (block : Fill) → StandsEarlier (scenario block).nodes 0 0 2
earlier block = record {
  is_sequence = record { node = _; is = refl; in_order = tt };
  earlier = 1;
  later = 4;
  earlier_child = record { node = _; is = refl; in_parent = refl };
  later_child = record { node = _; is = refl; in_parent = refl };
  order = lit< tt;
  a_inside = record { leaf = 2; node = _; is = refl; of_act = refl; under = Below 2 1 AtTop (record { node = _; is = refl; in_parent = refl }) };
  b_inside = record { leaf = 4; node = _; is = refl; of_act = refl; under = AtTop };
}

second_earlier : (block : Fill) → StandsEarlier (scenario block).nodes 0 1 2
second_earlier block = record {
  is_sequence = record { node = _; is = refl; in_order = tt };
  earlier = 1;
  later = 4;
  earlier_child = record { node = _; is = refl; in_parent = refl };
  later_child = record { node = _; is = refl; in_parent = refl };
  order = lit< tt;
  a_inside = record { leaf = 3; node = _; is = refl; of_act = refl; under = Below 3 1 AtTop (record { node = _; is = refl; in_parent = refl }) };
  b_inside = record { leaf = 4; node = _; is = refl; of_act = refl; under = AtTop };
}

pub awaited : Before named 0 2
awaited = record { sequence = 0; earlier = earlier (fill.Joined true 1); awaited = not_released named.nodes (in_order (fill.Joined true 1)) 0 (refl, tt) 0 }

is_released : IsReleased named.nodes 0 1
is_released = record {
  block = 1;
  branch = 3;
  node = _;
  parallel = true;
  joined = 1;
  is = refl;
  join = refl;
  child = record { node = _; is = refl; in_parent = refl };
  free = λ set. set refl;
  inside = record { leaf = 3; node = _; is = refl; of_act = refl; under = AtTop };
  nearest = NearestDirectly 1 (record { node = _; is = refl; in_parent = refl }) (record { node = _; is = refl; in_order = tt });
}

pub released : Before named 1 2 → ⊥
released before = before.awaited (subst (λ n. IsReleased named.nodes n 1) (sym (each_earlier (λ n a b. n ≡ 0) named.nodes (in_order (fill.Joined true 1)) (refl, (refl, tt)) before.sequence 1 2 before.earlier)) is_released)

-- what stands in earlier statements, and isn't released, has ended
waits : (trace : List Event) (b : ℕ) → EachOf (λ x. Before named x.first x.second → When (nat_eq x.second b) (Ended trace x.first)) (earliers named.nodes) → (x : ℕ) → Before named x b → Ended trace x
waits trace b facts x before =
    due (nat_eq b b) (Ended trace x) (eq-eqb b b refl) (each_before (λ a b'. Before named a b' → When (nat_eq b' b) (Ended trace a)) named (in_order (fill.Joined true 1)) facts x b before before)

pub trace : IsLegalTrace named 1 third_before_second
trace = record {
  blocks = Ends 1 ∷ Starts (1 ∷ []) (0 ∷ []) ∷ Ends 2 ∷ Starts (2 ∷ []) (0 ∷ []) ∷ Ends 0 ∷ Starts (0 ∷ []) (0 ∷ []) ∷ [];
  are = refl;
  legal = (
    (
      (
        (
          (
            (
              tt,
              starts_next named 1 [] 0 0 tt (lit< tt) (lit< tt) tt (waits [] 0 ((λ b. tt), ((λ b. tt), tt))) tt tt,
            ),
            runs_by (start 0 0 ∷ []) 0 0 false (0, lit< tt, refl) (tt, tt),
          ),
          starts_next named 1 (start 0 0 ∷ End 0 ∷ []) 2 0 tt (lit< tt) (lit< tt) ((tt, inl (1, lit< tt, refl)), (tt, tt))
              (waits (start 0 0 ∷ End 0 ∷ []) 2 ((λ b. (1, lit< tt, refl)), ((λ b. absurd (released b)), tt))) tt tt,
        ),
        runs_by (start 0 0 ∷ End 0 ∷ start 2 0 ∷ []) 2 0 false (2, lit< tt, refl) (tt, (tt, (tt, tt))),
      ),
      starts_next named 1 (start 0 0 ∷ End 0 ∷ start 2 0 ∷ End 2 ∷ []) 1 0 tt (lit< tt) (lit< tt) ((tt, inl (1, lit< tt, refl)), (tt, ((tt, inl (3, lit< tt, refl)), (tt, tt))))
          (waits (start 0 0 ∷ End 0 ∷ start 2 0 ∷ End 2 ∷ []) 1 ((λ b. tt), ((λ b. tt), tt))) tt tt,
    ),
    runs_by (start 0 0 ∷ End 0 ∷ start 2 0 ∷ End 2 ∷ start 1 0 ∷ []) 1 0 false (4, lit< tt, refl) (tt, (tt, (tt, (tt, (tt, tt))))),
  );
}

pub whole : IsWhole named third_before_second
whole = whole_by named third_before_second ((1, lit< tt, refl), ((5, lit< tt, refl), ((3, lit< tt, refl), tt)))

-- ---- without a join form

pub plain_awaited : Before plain 1 2
plain_awaited = record { sequence = 0; earlier = second_earlier fill.Parallel; awaited = no_joins plain.nodes (refl, (refl, (refl, (refl, (refl, tt))))) 0 1 }

pub plain_waits : MayCome plain 1 (start 0 0 ∷ End 0 ∷ []) (Starts (2 ∷ []) (0 ∷ [])) → ⊥
plain_waits may = differ 1 1 (each_end (λ a. nat_eq a 1 ≡ false) (start 0 0 ∷ End 0 ∷ []) (tt, (refl, tt)) 1 (may.sequence 1 2 (here 2 []) plain_awaited)) refl

start_end : (a l b : ℕ) (m : Bool) → Start a l m ≡ End b → ⊥
start_end a l b m e = cc e

ends_differ : (a b : ℕ) → nat_eq a b ≡ false → End a ≡ End b → ⊥
ends_differ a b not_same e = let same : a ≡ b = cc e in differ a b not_same same

pub plain_trace : IsLegalTrace plain 1 third_before_second → ⊥
plain_trace legal = nowhere (earlier_ends plain 1 third_before_second legal 1 2 2 0 false plain_awaited refl)
  where
    nowhere : (j : ℕ) × (j < 2) × (slice_get third_before_second j ≡ Some (End 1)) → ⊥
    nowhere (j, below, is) = each_below (λ j. slice_get third_before_second j ≡ Some (End 1) → ⊥) 2
        ((λ is. start_end 0 0 1 false (some_same (start 0 0) (End 1) is)), ((λ is. ends_differ 0 1 refl (some_same (End 0) (End 1) is)), tt)) j below is

-- ---- a bind across a block that waits for nothing

abbrev free : Scenario
free = crossed (fill.Joined true 0)

crossed_in_order : (block : Fill) → IsPreorder (crossed block).nodes
crossed_in_order block = preorder_by (crossed block).nodes (refl, (refl, (refl, (refl, tt))))

crossed_is_released : IsReleased free.nodes 0 0
crossed_is_released = record {
  block = 1;
  branch = 2;
  node = _;
  parallel = true;
  joined = 0;
  is = refl;
  join = refl;
  child = record { node = _; is = refl; in_parent = refl };
  free = λ set. set refl;
  inside = record { leaf = 2; node = _; is = refl; of_act = refl; under = AtTop };
  nearest = NearestDirectly 1 (record { node = _; is = refl; in_parent = refl }) (record { node = _; is = refl; in_order = tt });
}

pub crossed_released : Before free 0 1 → ⊥
crossed_released before =
    before.awaited (subst (λ n. IsReleased free.nodes n 0) (sym (each_earlier (λ n a b. n ≡ 0) free.nodes (crossed_in_order (fill.Joined true 0)) (refl, tt) before.sequence 0 1 before.earlier)) crossed_is_released)

nothing_before : (a b : ℕ) → Before free a b → ⊥
nothing_before a b before =
    each_before (λ a b. Before free a b → ⊥) free (crossed_in_order (fill.Joined true 0)) (crossed_released, tt) a b before before

crossed_feeds : (block : Fill) → Feeds (crossed block) 1 0
crossed_feeds block = record { pool = 0; output = 0; input = record { act = _; reference = 0; filled = _; is_act = refl; is = refl; of_flow = refl; of_pool = refl; linked = refl } }

pub crossed_order : Must free 1 0
crossed_order = Directly 1 0 0 (differ 1 0 refl, Buffer (crossed_feeds (fill.Joined true 0))) Itself

pub crossed_trace : IsLegalTrace free 1 second_first
crossed_trace = record {
  blocks = Ends 0 ∷ Starts (0 ∷ []) (0 ∷ []) ∷ Ends 1 ∷ Starts (1 ∷ []) (0 ∷ []) ∷ [];
  are = refl;
  legal = (
    (
      (
        (
          tt,
          starts_next free 1 [] 1 0 tt (lit< tt) (lit< tt) tt (λ x before. absurd (nothing_before x 1 before)) (tt, tt) (tt, (tt, tt)),
        ),
        runs_by (start 1 0 ∷ []) 1 0 false (0, lit< tt, refl) (tt, tt),
      ),
      starts_next free 1 (start 1 0 ∷ End 1 ∷ []) 0 0 tt (lit< tt) (lit< tt) ((tt, inl (1, lit< tt, refl)), (tt, tt)) (λ x before. absurd (nothing_before x 0 before)) ((1, lit< tt, refl), tt) (tt, (tt, tt)),
    ),
    runs_by (start 1 0 ∷ End 1 ∷ start 0 0 ∷ []) 0 0 false (2, lit< tt, refl) (tt, (tt, (tt, tt))),
  );
}

pub crossed_whole : IsWhole free second_first
crossed_whole = whole_by free second_first ((3, lit< tt, refl), ((1, lit< tt, refl), tt))

plain_crossed_before : Before (crossed fill.Parallel) 0 1
plain_crossed_before = record {
  sequence = 0;
  earlier = record {
    is_sequence = record { node = _; is = refl; in_order = tt };
    earlier = 1;
    later = 3;
    earlier_child = record { node = _; is = refl; in_parent = refl };
    later_child = record { node = _; is = refl; in_parent = refl };
    order = lit< tt;
    a_inside = record { leaf = 2; node = _; is = refl; of_act = refl; under = Below 2 1 AtTop (record { node = _; is = refl; in_parent = refl }) };
    b_inside = record { leaf = 3; node = _; is = refl; of_act = refl; under = AtTop };
  };
  awaited = no_joins (crossed fill.Parallel).nodes (refl, (refl, (refl, (refl, tt)))) 0 0;
}

pub plain_crossed_cycle : Must (crossed fill.Parallel) 0 0
plain_crossed_cycle =
    Through 0 1 0 (Directly 0 1 1 (differ 0 1 refl, Sequence plain_crossed_before) Itself) (Directly 1 0 0 (differ 1 0 refl, Buffer (crossed_feeds fill.Parallel)) Itself)

-- ---- blocks as fills

way : (block : StepTree) (action : ℕ) → action < 3 → IsActionWay (model block) action (Some 0) (Leaf action 0) []
way block action below = each_below (λ action. IsActionWay (model block) action (Some 0) (Leaf action 0) []) 3 (first, (second, (third, tt))) action below
  where
    first : IsActionWay (model block) 0 (Some 0) (Leaf 0 0) []
    first = record { type = _; is = refl; instance = 0; inside = (0, lit< tt, refl); content = (refl, refl) }

    second : IsActionWay (model block) 1 (Some 0) (Leaf 1 0) []
    second = record { type = _; is = refl; instance = 0; inside = (0, lit< tt, refl); content = (refl, refl) }

    third : IsActionWay (model block) 2 (Some 0) (Leaf 2 0) []
    third = record { type = _; is = refl; instance = 0; inside = (0, lit< tt, refl); content = (refl, refl) }

fills_of : (join : Join) (joined : ℕ) → IsJoined join 2 joined → Fills (model (Joined true join branches)) most_levels (Action 3 None) None (nothing_yet 0) (scenario (fill.Joined true joined))
fills_of join joined is_join = (
  _,
  _,
  record { type = _; is = refl; instance = 0; inside = (0, lit< tt, refl); content = ([], tt, refl, refl) },
  (
    _,
    (_, _, (joined, is_join, refl, refl), (_, (_, _, way (Joined true join branches) 0 (lit< tt), refl), (_, (_, _, way (Joined true join branches) 1 (lit< tt), refl), refl))),
    (_, (_, _, way (Joined true join branches) 2 (lit< tt), refl), refl),
  ),
)

root_of : (join : Join) (joined : ℕ) → IsJoined join 2 joined → FillsRoot (model (Joined true join branches)) 3 (scenario (fill.Joined true joined))
root_of join joined is_join = record {
  tree = scenario (fill.Joined true joined);
  fills = fills_of join joined is_join;
  nodes = refl;
  leaves = (record { action = refl; instance = refl; node = refl }, (record { action = refl; instance = refl; node = refl }, (record { action = refl; instance = refl; node = refl }, tt)));
}

pub named_fills : FillsRoot (model (Joined true (Fixed 1) branches)) 3 (scenario (fill.Joined true 1))
named_fills = root_of (Fixed 1) 1 refl

pub chosen_fills : FillsRoot (model (Joined true (Choose 1) branches)) 3 (scenario (fill.Joined true 2))
chosen_fills = root_of (Choose 1) 2 (false ∷ true ∷ [], refl, refl, refl)
