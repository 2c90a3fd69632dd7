-- Facts: Two actions that lock, or share, one resource instance, in parallel and in any order.
use Rattle.std.specs.Prelude.{◌≡◌, ℕ, [], ◌∷◌, Bool, true, false, Some, None}
use Rattle.pst_model.specs.declared.object.ObjectKind.TheVariants.{Resource}
use Rattle.pst_model.specs.ActivityTree.{Parallel, Schedule}
use Rattle.pst_scen.specs.declared.tree.Fill.{Fill}
use Rattle.pst_scen.specs.declared.tree.Fill.TheVariants as fill
use Rattle.pst_scen.specs.declared.scenario.Scenario.{Scenario}
use Rattle.pst_scen.specs.declared.event.Event.TheVariants.{End}
use Rattle.pst_scen.specs.Conflicts.{Conflict}
use Rattle.pst_scen.specs.Trace.{MayCome, Starts, IsLegalTrace, IsWhole}
use Rattle.pst_scen.specs.Plans.{KeepsParallel}
use Rattle.pst_legal.specs.Legal.{Legal}
use Rattle.pst_legal.specs.ValueReading.{Whole, read}
use Rattle.pst_trials.specs.Parts.{claim, act_claims, claimed, scenario_of, start, places}
use Rattle.std.proofs.Common.{inl, inr, refl, lit<, lit≤}
use Rattle.pst_legal.specs.Growing.{nothing_yet, most_levels, Leaf}
use Rattle.pst_legal.specs.Pieces.{Action, IsActionWay}
use Rattle.pst_scen.specs.Tree.{AtTop}
use Rattle.pst_scen.specs.Flows.{Claims}
use Rattle.pst_scen.specs.Order.{Must}
use Rattle.pst_scen.specs.Trace.{Ends}
use Rattle.pst_scen.specs.Laws.{IsPreorder}
use Rattle.pst_scen.specs.Scenarios.{IsScenario}
use Rattle.pst_scen.specs.Plans.{StandParallel}
use Rattle.pst_legal.specs.Fits.{Fills, Fits, IsActOf, IsClaimOf}
use Rattle.pst_legal.specs.Supplied.{Supplied}
use Rattle.pst_legal.specs.Binds.{bounds_of}
use Rattle.pst_legal.specs.Constraints.{Holds}
use Rattle.pst_trials.proofs.Cases.{each, each_both, none_some}
use Rattle.pst_trials.proofs.Branches.{each_parallel}
use Rattle.pst_trials.proofs.Orders.{each_conflict, each_contend, each_must_alone, each_cause, each_before}
use Rattle.pst_legal.specs.First.{IsFirst}
use Rattle.std.proofs.Common.{not-suc-le-zero, replicate}
use Rattle.pst_trials.proofs.Fronts.{is_whole, none_before}
use Rattle.pst_trials.proofs.Traces.{EachBelow, preorder_by, here, runs_by, starts_next, awaits, whole_by}
use Rattle.pst_trials.proofs.Legality.{differ, in_preorder, are_linked, no_firsts, no_previous, no_chains, sources_by, bounds_by, inferred_by, none_inline, HoldsAt, holds_by, none_clashes}
use Rattle.rand_core.specs.Steps.{u32_at, word_bytes}
use Rattle.rand_core.specs.Pcg32Seed.{pcg32_seed}
use Rattle.pst_rng.specs.Words.{generator_at}
use Rattle.pst_expr.specs.Spans.{numbers_from}
use Rattle.pst_trials.specs.Locks.{model, twice, act, scenario, choices, one_after_another}
use Rattle.pst_legal.specs.Shape.{HasShape, HasClaimShape}
use Rattle.pst_trials.proofs.Legality.{shape_by}
use Rattle.pst_scen.specs.Conflicts.{Resource}

pub reads_parallel_locks : read (model true (Parallel twice)) 1 1 0 choices ≡ Whole (scenario true fill.Parallel)
unfolding generator_at u32_at pcg32_seed word_bytes numbers_from
reads_parallel_locks = refl

pub reads_any_order : read (model true (Schedule twice)) 1 1 0 choices ≡ Whole (scenario true fill.Schedule)
unfolding generator_at u32_at pcg32_seed word_bytes numbers_from
reads_any_order = refl

pub reads_parallel_shares : read (model false (Parallel twice)) 1 1 0 choices ≡ Whole (scenario false fill.Parallel)
unfolding generator_at u32_at pcg32_seed word_bytes numbers_from
reads_parallel_shares = refl

pub one_option_each : places (model true (Schedule twice)) 1 1 0 choices ≡ Some 1 ∷ Some 1 ∷ Some 1 ∷ Some 1 ∷ Some 1 ∷ []
unfolding generator_at u32_at pcg32_seed word_bytes numbers_from
one_option_each = refl

-- ---- claims

pub in_order : (locks : Bool) (block : Fill) → IsPreorder (scenario locks block).nodes
in_order locks block = preorder_by (scenario locks block).nodes (refl, (refl, (refl, (refl, tt))))

pub first_claims : (locks : Bool) (block : Fill) → Claims (scenario locks block) 0 0 0 locks
first_claims locks block = record { claim = 0; claimed = _; is = record { act = _; is_act = refl; is = refl }; of_pool = refl; of_instance = refl; by_lock = refl }

pub second_claims : (locks : Bool) (block : Fill) → Claims (scenario locks block) 1 0 0 locks
second_claims locks block = record { claim = 0; claimed = _; is = record { act = _; is_act = refl; is = refl }; of_pool = refl; of_instance = refl; by_lock = refl }

pub locks_conflict : Conflict (scenario true fill.Schedule) 0 1
locks_conflict = (differ 0 1 refl, Resource 0 0 true true (first_claims true fill.Schedule) (second_claims true fill.Schedule) (inl refl))

no_conflict : (a b : ℕ) → Conflict (scenario false fill.Parallel) a b → ⊥
no_conflict a b conflict = each_conflict (λ a b. ⊥) (scenario false fill.Parallel) tt tt tt a b conflict.1

pub shares_agree : Conflict (scenario false fill.Parallel) 0 1 → ⊥
shares_agree = no_conflict 0 1

pub stand : (locks : Bool) → StandParallel (scenario locks fill.Parallel) 0 1
stand locks = record {
  block = 1;
  node = _;
  is = refl;
  parallel = tt;
  a_branch = 2;
  b_branch = 3;
  different = differ 2 3 refl;
  a_child = record { node = _; is = refl; in_parent = refl };
  b_child = record { node = _; is = refl; in_parent = refl };
  a_inside = record { leaf = 2; node = _; is = refl; of_act = refl; under = AtTop };
  b_inside = record { leaf = 3; node = _; is = refl; of_act = refl; under = AtTop };
}

pub locks_dispute : KeepsParallel (scenario true fill.Parallel) → ⊥
locks_dispute keeps =
    keeps.undisputed 0 1 (stand true) (differ 0 1 refl)
    (record { pool = 0; instance = 0; own = true; other = true; a_claims = first_claims true fill.Parallel; b_claims = second_claims true fill.Parallel; by_lock = inl refl })

pub parallel_locks_are_illegal : Legal (model true (Parallel twice)) 1 (scenario true fill.Parallel) → ⊥
parallel_locks_are_illegal legal = locks_dispute legal.parallel

pub not_together : MayCome (scenario true fill.Schedule) 2 (start 0 0 ∷ []) (Starts (1 ∷ []) (1 ∷ [])) → ⊥
not_together may = may.clear 0 1 (runs_by (start 0 0 ∷ []) 0 0 false (0, lit< tt, refl) (tt, tt)) (here 1 []) locks_conflict

pub shares_together : MayCome (scenario false fill.Parallel) 2 (start 0 0 ∷ []) (Starts (1 ∷ []) (1 ∷ []))
shares_together =
    starts_next (scenario false fill.Parallel) 2 (start 0 0 ∷ []) 1 1 tt (lit< tt) (lit< tt) ((tt, inr (tt, no_conflict 0 1)), tt)
    (awaits (scenario false fill.Parallel) (start 0 0 ∷ []) 1 (in_order false fill.Parallel) tt) tt tt

-- ---- one after another, in any_order

any_order_trace : (locks : Bool) → IsLegalTrace (scenario locks fill.Schedule) 2 one_after_another
any_order_trace locks = record {
  blocks = Ends 1 ∷ Starts (1 ∷ []) (0 ∷ []) ∷ Ends 0 ∷ Starts (0 ∷ []) (0 ∷ []) ∷ [];
  are = refl;
  legal = (
    (
      (
        (
          tt,
          starts_next (scenario locks fill.Schedule) 2 [] 0 0 tt (lit< tt) (lit< tt) tt (awaits (scenario locks fill.Schedule) [] 0 (in_order locks fill.Schedule) tt) tt tt,
        ),
        runs_by (start 0 0 ∷ []) 0 0 false (0, lit< tt, refl) (tt, tt),
      ),
      starts_next (scenario locks fill.Schedule) 2 (start 0 0 ∷ End 0 ∷ []) 1 0 tt (lit< tt) (lit< tt) ((tt, inl (1, lit< tt, refl)), (tt, tt))
          (awaits (scenario locks fill.Schedule) (start 0 0 ∷ End 0 ∷ []) 1 (in_order locks fill.Schedule) tt) tt tt,
    ),
    runs_by (start 0 0 ∷ End 0 ∷ start 1 0 ∷ []) 1 0 false (2, lit< tt, refl) (tt, (tt, (tt, tt))),
  );
}

any_order_whole : (locks : Bool) → IsWhole (scenario locks fill.Schedule) one_after_another
any_order_whole locks = whole_by (scenario locks fill.Schedule) one_after_another ((1, lit< tt, refl), ((3, lit< tt, refl), tt))

any_order_scenario : (locks : Bool) → IsScenario (scenario locks fill.Schedule)
any_order_scenario locks = record {
  nodes = in_preorder (scenario locks fill.Schedule).nodes (tt, (refl, (refl, (refl, tt))));
  leaves = record { numbers = refl; nodes = refl };
  links = are_linked (scenario locks fill.Schedule).actions (tt, (tt, tt));
  firsts = no_firsts 0 (scenario locks fill.Schedule).nodes (scenario locks fill.Schedule).actions tt;
}

any_order_leaf : (locks : Bool) → IsActionWay (model locks (Schedule twice)) 0 (Some 0) (Leaf 0 0) []
any_order_leaf locks = record { type = _; is = refl; instance = 0; inside = (0, lit< tt, refl); content = (refl, refl) }

-- the scenario before its claims are read
abbrev any_order_tree : Scenario
any_order_tree = scenario_of 0 (scenario true fill.Schedule).nodes (act_claims 0 (Some 2) [] ∷ act_claims 0 (Some 3) [] ∷ []) []

any_order_fills : (locks : Bool) → Fills (model locks (Schedule twice)) most_levels (Action 1 None) None (nothing_yet 0) any_order_tree
any_order_fills locks = (
  _,
  _,
  record { type = _; is = refl; instance = 0; inside = (0, lit< tt, refl); content = ([], tt, refl, refl) },
  (_, (_, _, (refl, refl), (_, (_, _, any_order_leaf locks, refl), (_, (_, _, any_order_leaf locks, refl), refl))), refl),
)

any_order_claim : (locks : Bool) (n : ℕ) → IsClaimOf (model locks (Schedule twice)) (act locks n) 0 (claim locks 0) (claimed locks 0)
any_order_claim locks n = record { is_pool = refl; lock = refl; pool = _; is = refl; within = lit< tt; values = tt }

any_order_act : (locks : Bool) (n : ℕ) → IsActOf (model locks (Schedule twice)) (act locks n)
any_order_act locks n = record {
  type = _;
  is = refl;
  fields = tt;
  many_references = refl;
  references = λ k filled is. absurd (none_some filled is);
  many_claims = refl;
  claims = each_both (IsClaimOf (model locks (Schedule twice)) (act locks n)) (claim locks 0 ∷ []) (claimed locks 0 ∷ []) (any_order_claim locks n, tt);
}

any_order_fits : (locks : Bool) → Fits (model locks (Schedule twice)) 1 (scenario locks fill.Schedule)
any_order_fits locks = record {
  tree = record { tree = any_order_tree; fills = any_order_fills locks; nodes = refl; leaves = (record { action = refl; instance = refl; node = refl }, (record { action = refl; instance = refl; node = refl }, tt)) };
  values = record {
    acts = each (λ a act. IsActOf (model locks (Schedule twice)) act) (scenario locks fill.Schedule).actions (any_order_act locks 2, (any_order_act locks 3, tt));
    firsts = λ k first is. absurd (none_some first is);
  };
  within = record { few_nodes = lit≤ tt; few_acts = lit≤ tt };
}

any_order_supplied : (locks : Bool) → Supplied (model locks (Schedule twice)) (scenario locks fill.Schedule)
any_order_supplied locks = record {
  sources = sources_by (scenario locks fill.Schedule).actions (tt, (tt, tt));
  previous = no_previous (scenario locks fill.Schedule).actions (tt, (tt, tt));
  chains = no_chains (scenario locks fill.Schedule).actions (tt, (tt, tt));
  bound = bounds_by (bounds_of (model locks (Schedule twice)) (scenario locks fill.Schedule).nodes) (scenario locks fill.Schedule).actions (tt, (tt, tt));
  inferred = inferred_by (model locks (Schedule twice)) (scenario locks fill.Schedule).actions (tt, (tt, tt));
  numbered = refl;
}

any_order_holds : (locks : Bool) → Holds (model locks (Schedule twice)) (scenario locks fill.Schedule)
any_order_holds locks = holds_by (model locks (Schedule twice)) (scenario locks fill.Schedule) (record {
  inlines = none_inline HoldsAt (model locks (Schedule twice)) (scenario locks fill.Schedule) (tt, (((refl, (refl, tt)), tt), tt));
  compounds = (tt, (tt, (tt, (tt, tt))));
  acts = (tt, (tt, tt));
  claims = ((tt, tt), ((tt, tt), tt));
  outputs = (tt, (tt, tt));
  firsts = (tt, (tt, tt));
})

-- ---- one after another, in parallel

parallel_trace : (locks : Bool) → IsLegalTrace (scenario locks fill.Parallel) 2 one_after_another
parallel_trace locks = record {
  blocks = Ends 1 ∷ Starts (1 ∷ []) (0 ∷ []) ∷ Ends 0 ∷ Starts (0 ∷ []) (0 ∷ []) ∷ [];
  are = refl;
  legal = (
    (
      (
        (
          tt,
          starts_next (scenario locks fill.Parallel) 2 [] 0 0 tt (lit< tt) (lit< tt) tt (awaits (scenario locks fill.Parallel) [] 0 (in_order locks fill.Parallel) tt) tt tt,
        ),
        runs_by (start 0 0 ∷ []) 0 0 false (0, lit< tt, refl) (tt, tt),
      ),
      starts_next (scenario locks fill.Parallel) 2 (start 0 0 ∷ End 0 ∷ []) 1 0 tt (lit< tt) (lit< tt) ((tt, inl (1, lit< tt, refl)), (tt, tt))
          (awaits (scenario locks fill.Parallel) (start 0 0 ∷ End 0 ∷ []) 1 (in_order locks fill.Parallel) tt) tt tt,
    ),
    runs_by (start 0 0 ∷ End 0 ∷ start 1 0 ∷ []) 1 0 false (2, lit< tt, refl) (tt, (tt, (tt, tt))),
  );
}

parallel_whole : (locks : Bool) → IsWhole (scenario locks fill.Parallel) one_after_another
parallel_whole locks = whole_by (scenario locks fill.Parallel) one_after_another ((1, lit< tt, refl), ((3, lit< tt, refl), tt))

parallel_scenario : (locks : Bool) → IsScenario (scenario locks fill.Parallel)
parallel_scenario locks = record {
  nodes = in_preorder (scenario locks fill.Parallel).nodes (tt, (refl, (refl, (refl, tt))));
  leaves = record { numbers = refl; nodes = refl };
  links = are_linked (scenario locks fill.Parallel).actions (tt, (tt, tt));
  firsts = no_firsts 0 (scenario locks fill.Parallel).nodes (scenario locks fill.Parallel).actions tt;
}

parallel_leaf : (locks : Bool) → IsActionWay (model locks (Parallel twice)) 0 (Some 0) (Leaf 0 0) []
parallel_leaf locks = record { type = _; is = refl; instance = 0; inside = (0, lit< tt, refl); content = (refl, refl) }

-- the scenario before its claims are read
abbrev parallel_tree : Scenario
parallel_tree = scenario_of 0 (scenario true fill.Parallel).nodes (act_claims 0 (Some 2) [] ∷ act_claims 0 (Some 3) [] ∷ []) []

parallel_fills : (locks : Bool) → Fills (model locks (Parallel twice)) most_levels (Action 1 None) None (nothing_yet 0) parallel_tree
parallel_fills locks = (
  _,
  _,
  record { type = _; is = refl; instance = 0; inside = (0, lit< tt, refl); content = ([], tt, refl, refl) },
  (_, (_, _, (refl, refl), (_, (_, _, parallel_leaf locks, refl), (_, (_, _, parallel_leaf locks, refl), refl))), refl),
)

parallel_claim : (locks : Bool) (n : ℕ) → IsClaimOf (model locks (Parallel twice)) (act locks n) 0 (claim locks 0) (claimed locks 0)
parallel_claim locks n = record { is_pool = refl; lock = refl; pool = _; is = refl; within = lit< tt; values = tt }

parallel_act : (locks : Bool) (n : ℕ) → IsActOf (model locks (Parallel twice)) (act locks n)
parallel_act locks n = record {
  type = _;
  is = refl;
  fields = tt;
  many_references = refl;
  references = λ k filled is. absurd (none_some filled is);
  many_claims = refl;
  claims = each_both (IsClaimOf (model locks (Parallel twice)) (act locks n)) (claim locks 0 ∷ []) (claimed locks 0 ∷ []) (parallel_claim locks n, tt);
}

parallel_fits : (locks : Bool) → Fits (model locks (Parallel twice)) 1 (scenario locks fill.Parallel)
parallel_fits locks = record {
  tree = record { tree = parallel_tree; fills = parallel_fills locks; nodes = refl; leaves = (record { action = refl; instance = refl; node = refl }, (record { action = refl; instance = refl; node = refl }, tt)) };
  values = record {
    acts = each (λ a act. IsActOf (model locks (Parallel twice)) act) (scenario locks fill.Parallel).actions (parallel_act locks 2, (parallel_act locks 3, tt));
    firsts = λ k first is. absurd (none_some first is);
  };
  within = record { few_nodes = lit≤ tt; few_acts = lit≤ tt };
}

parallel_supplied : (locks : Bool) → Supplied (model locks (Parallel twice)) (scenario locks fill.Parallel)
parallel_supplied locks = record {
  sources = sources_by (scenario locks fill.Parallel).actions (tt, (tt, tt));
  previous = no_previous (scenario locks fill.Parallel).actions (tt, (tt, tt));
  chains = no_chains (scenario locks fill.Parallel).actions (tt, (tt, tt));
  bound = bounds_by (bounds_of (model locks (Parallel twice)) (scenario locks fill.Parallel).nodes) (scenario locks fill.Parallel).actions (tt, (tt, tt));
  inferred = inferred_by (model locks (Parallel twice)) (scenario locks fill.Parallel).actions (tt, (tt, tt));
  numbered = refl;
}

parallel_holds : (locks : Bool) → Holds (model locks (Parallel twice)) (scenario locks fill.Parallel)
parallel_holds locks = holds_by (model locks (Parallel twice)) (scenario locks fill.Parallel) (record {
  inlines = none_inline HoldsAt (model locks (Parallel twice)) (scenario locks fill.Parallel) (tt, (((refl, (refl, tt)), tt), tt));
  compounds = (tt, (tt, (tt, (tt, tt))));
  acts = (tt, (tt, tt));
  claims = ((tt, tt), ((tt, tt), tt));
  outputs = (tt, (tt, tt));
  firsts = (tt, (tt, tt));
})

any_order_shape : (locks : Bool) → HasShape (model locks (Schedule twice)) (scenario locks fill.Schedule)
any_order_shape locks = shape_by (model locks (Schedule twice)) (scenario locks fill.Schedule) (record { type = _; is = refl; activity = _; compound = refl; inside = lit< tt; many = refl }, (tt, (tt, (tt, tt))))
    (record { type = _; is = refl; atomic = refl; inside = lit< tt; many_fields = refl; many_references = refl; references = λ k reference filled is. absurd (none_some reference is); many_claims = refl; claims = each_both (λ k c d. HasClaimShape (model locks (Schedule twice)) c d) (claim locks 0 ∷ []) (act locks 2).claims (record { pool = lit< tt; values = record { type = _; is = refl; many = refl } }, tt) }, (record { type = _; is = refl; atomic = refl; inside = lit< tt; many_fields = refl; many_references = refl; references = λ k reference filled is. absurd (none_some reference is); many_claims = refl; claims = each_both (λ k c d. HasClaimShape (model locks (Schedule twice)) c d) (claim locks 0 ∷ []) (act locks 3).claims (record { pool = lit< tt; values = record { type = _; is = refl; many = refl } }, tt) }, tt)) tt

parallel_shape : (locks : Bool) → HasShape (model locks (Parallel twice)) (scenario locks fill.Parallel)
parallel_shape locks = shape_by (model locks (Parallel twice)) (scenario locks fill.Parallel) (record { type = _; is = refl; activity = _; compound = refl; inside = lit< tt; many = refl }, (tt, (tt, (tt, tt))))
    (record { type = _; is = refl; atomic = refl; inside = lit< tt; many_fields = refl; many_references = refl; references = λ k reference filled is. absurd (none_some reference is); many_claims = refl; claims = each_both (λ k c d. HasClaimShape (model locks (Parallel twice)) c d) (claim locks 0 ∷ []) (act locks 2).claims (record { pool = lit< tt; values = record { type = _; is = refl; many = refl } }, tt) }, (record { type = _; is = refl; atomic = refl; inside = lit< tt; many_fields = refl; many_references = refl; references = λ k reference filled is. absurd (none_some reference is); many_claims = refl; claims = each_both (λ k c d. HasClaimShape (model locks (Parallel twice)) c d) (claim locks 0 ∷ []) (act locks 3).claims (record { pool = lit< tt; values = record { type = _; is = refl; many = refl } }, tt) }, tt)) tt

-- ---- legal scenarios

pub whole_trace : IsLegalTrace (scenario true fill.Schedule) 2 one_after_another
whole_trace = any_order_trace true

pub whole : IsWhole (scenario true fill.Schedule) one_after_another
whole = any_order_whole true

pub locks_are_legal : Legal (model true (Schedule twice)) 1 (scenario true fill.Schedule)
locks_are_legal = record {
  shape = any_order_shape true;
  scenario = any_order_scenario true;
  fits = any_order_fits true;
  supplied = any_order_supplied true;
  holds = any_order_holds true;
  parallel = record {
    unordered = each_parallel (λ a b. Must (scenario true fill.Schedule) a b → ⊥) (scenario true fill.Schedule) (in_order true fill.Schedule) tt;
    undisputed = λ a b stand. absurd (each_parallel (λ a b. ⊥) (scenario true fill.Schedule) (in_order true fill.Schedule) tt a b stand);
  };
  alone = λ a below. none_clashes (scenario true fill.Schedule) ((((λ other pool instance locks. other refl), tt), tt), ((((λ other pool instance locks. other refl), tt), tt), tt)) a;
  runs = record { lanes = 2; trace = one_after_another; legal = any_order_trace true; whole = any_order_whole true };
}

-- without sequences and flows nothing is ordered
no_order : (a b : ℕ) → Must (scenario false fill.Parallel) a b → ⊥
no_order =
    each_must_alone (λ a b. ⊥) (scenario false fill.Parallel) tt (λ a c b first second. first)
    (each_cause (λ a b. ⊥) (scenario false fill.Parallel) (each_before (λ a b. ⊥) (scenario false fill.Parallel) (in_order false fill.Parallel) tt) tt)

pub shares_are_legal : Legal (model false (Parallel twice)) 1 (scenario false fill.Parallel)
shares_are_legal = record {
  shape = parallel_shape false;
  scenario = parallel_scenario false;
  fits = parallel_fits false;
  supplied = parallel_supplied false;
  holds = parallel_holds false;
  parallel = record {
    unordered = λ a b stand. no_order a b;
    undisputed = λ a b stand different. each_contend (λ a b. ⊥) (scenario false fill.Parallel) tt a b;
  };
  alone = λ a below. none_clashes (scenario false fill.Parallel) ((((λ other pool instance locks. other refl), tt), tt), ((((λ other pool instance locks. other refl), tt), tt), tt)) a;
  runs = record { lanes = 2; trace = one_after_another; legal = parallel_trace false; whole = parallel_whole false };
}

-- ---- the first scenario

fronts : EachBelow (λ k. is_whole (read (model true (Schedule twice)) 1 1 0 (replicate k 0)) ≡ false) 5
unfolding generator_at u32_at pcg32_seed word_bytes numbers_from
fronts = (refl, (refl, (refl, (refl, (refl, tt)))))

pub locks_are_first : IsFirst (model true (Schedule twice)) 1 1 0 (scenario true fill.Schedule)
locks_are_first = record {
  few = lit≤ tt;
  below = λ other less. absurd (not-suc-le-zero less);
  choices = choices;
  reads = record { reads = reads_any_order; legal = locks_are_legal };
  before = λ other s before reads. none_before (model true (Schedule twice)) 1 1 0 5 fronts other s before reads.reads;
}
