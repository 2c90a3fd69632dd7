-- Facts: Two actions in sequence, and what commands make of their trace on one lane.
use Rattle.std.specs.Prelude.{◌≡◌, ℕ, List, [], ◌∷◌, false}
use Rattle.pst_scen.specs.declared.event.Event.{Event}
use Rattle.pst_scen.specs.declared.event.Event.TheVariants.{End}
use Rattle.pst_scen.specs.Core.{Open, Close, Core, commands_of}
use Rattle.pst_scen.specs.Trace.{IsLegalTrace, Prefix}
use Rattle.pst_legal.specs.ValueReading.{Whole, read}
use Rattle.pst_trials.specs.Parts.{start}
use Rattle.std.proofs.Common.{refl}
use Rattle.rand_core.specs.Steps.{u32_at, word_bytes}
use Rattle.rand_core.specs.Pcg32Seed.{pcg32_seed}
use Rattle.pst_rng.specs.Words.{generator_at}
use Rattle.pst_expr.specs.Spans.{numbers_from}
use Rattle.pst_trials.specs.Cores.{model, scenario, commands, in_sequence}
use Rattle.std.proofs.Common.{zero-le, ◌≤◌}
use Rattle.pst_scen.specs.Trace.{IsWholeGroup}
use Rattle.pst_scen.specs.Core.{IsStartable, Opens, Opened, Shut, Closed, Idle, Done, Then}
use Rattle.pst_trials.proofs.Orders.{itself_alone}
use Rattle.pst_trials.proofs.Traces.{alone_group}
use Rattle.std.proofs.Common.{◌<◌, suc, zero, inl, nat_eq, sym, subst, lit<, length, get_or, arith, Contains, not-suc-le-zero}
use Rattle.pst_scen.specs.Order.{Must}
use Rattle.pst_scen.specs.Trace.{Starts, Ends, Started, Ended, Runs, AreFree}
use Rattle.pst_scen.specs.Laws.{IsPreorder}
use Rattle.pst_trials.proofs.Cases.{each_contained}
use Rattle.pst_trials.proofs.Orders.{each_must_alone, each_cause, each_before}
use Rattle.pst_trials.proofs.Traces.{each_start, each_below, preorder_by, here, runs_by, starts_next, awaits, whole_by}
use Rattle.pst_trials.proofs.Legality.{differ}

pub reads : read model 2 1 0 (0 ∷ 0 ∷ 0 ∷ []) ≡ Whole scenario
unfolding generator_at u32_at pcg32_seed word_bytes numbers_from
reads = refl

pub commands_again : commands_of in_sequence ≡ Open ∷ Close 0 ∷ Open ∷ Close 1 ∷ []
unfolding generator_at u32_at pcg32_seed word_bytes numbers_from
commands_again = refl

-- ---- order and groups

in_order : IsPreorder scenario.nodes
in_order = preorder_by scenario.nodes (refl, (refl, (refl, tt)))

only_first : (a b : ℕ) → Must scenario a b → (a ≡ 0) × (b ≡ 1)
only_first =
    each_must_alone (λ a b. (a ≡ 0) × (b ≡ 1)) scenario tt (λ a c b first second. (first.0, second.1))
    (each_cause (λ a b. (a ≡ 0) × (b ≡ 1)) scenario (each_before (λ a b. (a ≡ 0) × (b ≡ 1)) scenario in_order ((refl, refl), tt)) tt)

own_group : (a : ℕ) → a < 2 → IsWholeGroup scenario (a ∷ [])
own_group a below = alone_group scenario a below (itself_alone scenario tt a)

-- ---- traces

abbrev first_runs : List Event
first_runs = start 0 0 ∷ []

abbrev first_ended : List Event
first_ended = start 0 0 ∷ End 0 ∷ []

abbrev second_runs : List Event
second_runs = start 0 0 ∷ End 0 ∷ start 1 0 ∷ []

runs_first : Runs first_runs 0
runs_first = runs_by first_runs 0 0 false (0, lit< tt, refl) (tt, tt)

runs_second : Runs second_runs 1
runs_second = runs_by second_runs 1 0 false (2, lit< tt, refl) (tt, (tt, (tt, tt)))

nothing_runs : (a : ℕ) → Runs first_ended a → ⊥
nothing_runs a runs = runs.1 (each_start (λ a l. Ended first_ended a) first_ended ((1, lit< tt, refl), (tt, tt)) a runs.0.0 runs.0.1)

pub legal : IsLegalTrace scenario 1 in_sequence
legal = record {
  blocks = Ends 1 ∷ Starts (1 ∷ []) (0 ∷ []) ∷ Ends 0 ∷ Starts (0 ∷ []) (0 ∷ []) ∷ [];
  are = refl;
  legal = (
    (
      (
        (
          tt,
          starts_next scenario 1 [] 0 0 tt (lit< tt) (lit< tt) tt (awaits scenario [] 0 in_order (tt, tt)) tt tt,
        ),
        runs_first,
      ),
      starts_next scenario 1 first_ended 1 0 tt (lit< tt) (lit< tt) ((tt, inl (1, lit< tt, refl)), (tt, tt)) (awaits scenario first_ended 1 in_order ((1, lit< tt, refl), tt)) tt tt,
    ),
    runs_second,
  );
}

pub prefix : Prefix scenario 1 (start 0 0 ∷ [])
unfolding legal
prefix = record {
  blocks = Starts (0 ∷ []) (0 ∷ []) ∷ [];
  more = Ends 1 ∷ Starts (1 ∷ []) (0 ∷ []) ∷ Ends 0 ∷ [];
  are = refl;
  legal = legal.legal;
  whole = whole_by scenario in_sequence ((1, lit< tt, refl), ((3, lit< tt, refl), tt));
}

-- ---- commands

-- a group has a first member, and its lanes a first lane
first_of : (xs : List ℕ) → 0 < length xs → (x : ℕ) × (get_or xs 0 0 ≡ x) × Contains xs x
first_of [] some = absurd (not-suc-le-zero some)
first_of (x ∷ xs) some = (x, refl, here x xs)

no_lane_idle : (members : List ℕ) → IsStartable scenario 1 first_runs members → ⊥
no_lane_idle members startable =
    let some : 0 < length startable.used = subst (λ n. 0 < n) (sym startable.free.many) startable.ready.group.some in
    let lane : (l : ℕ) × (get_or startable.used 0 0 ≡ l) × Contains startable.used l = first_of startable.used some in
    each_below (λ l. Contains startable.used l → ⊥) 1 ((λ has. startable.free.idle 0 has (0, (false, (0, lit< tt, refl)), runs_first.1)), tt) lane.0 (startable.free.below lane.0 lane.2) lane.2

free : (trace : List Event) → ((a : ℕ) → Runs trace a → ⊥) → (a : ℕ) → AreFree 1 trace (a ∷ []) (0 ∷ [])
free trace none a = record {
  many = refl;
  different = λ i j order under. absurd (omega arith);
  below = each_contained (λ l. l < 1) (0 ∷ []) (lit< tt, tt);
  idle = λ l in_l held. none held.0 ((l, held.1), held.2);
}

only_lane : (l m : ℕ) → l < m → Contains (0 ∷ []) m → ⊥
only_lane l m less contained = not-suc-le-zero (each_contained (λ m. l < m → l < 0) (0 ∷ []) ((λ less. less), tt) m contained less)

opens_first : Opens scenario 1 [] (0 ∷ []) (0 ∷ [])
opens_first = record {
  ready = record {
    group = own_group 0 (lit< tt);
    fresh = λ a in_a started. not-suc-le-zero started.1.1.1;
    awaited = λ a b in_b must. absurd (differ b b (each_contained (λ c. nat_eq c b ≡ false) (0 ∷ []) (subst (λ c. nat_eq 0 c ≡ false) (sym (only_first a b must).1) refl, tt) b in_b) refl);
    clear = λ a b runs in_b conflict. not-suc-le-zero runs.0.1.1.1;
  };
  free = free [] (λ a runs. not-suc-le-zero runs.0.1.1.1) 0;
  least = λ others startable. zero-le;
  ascending = λ i j order under. absurd (omega arith);
  least_lanes = λ l m less contained held. absurd (only_lane l m less contained);
}

least_second : (others : List ℕ) → IsStartable scenario 1 first_ended others → 1 ≤ get_or others 0 0
least_second [] startable = absurd (not-suc-le-zero startable.ready.group.some)
least_second (zero ∷ others) startable = absurd (startable.ready.fresh 0 (here 0 others) (0, (false, (0, lit< tt, refl))))
least_second (suc x ∷ others) startable = omega arith

opens_second : Opens scenario 1 first_ended (1 ∷ []) (0 ∷ [])
opens_second = record {
  ready = record {
    group = own_group 1 (lit< tt);
    fresh = λ a in_a started. each_contained (λ a. Started first_ended a → ⊥) (1 ∷ []) ((λ started. differ 1 1 (each_start (λ a l. nat_eq a 1 ≡ false) first_ended (refl, (tt, tt)) 1 started.0 started.1) refl), tt) a in_a started;
    awaited = λ a b in_b must. subst (Ended first_ended) (sym (only_first a b must).0) (1, lit< tt, refl);
    clear = λ a b runs in_b conflict. nothing_runs a runs;
  };
  free = free first_ended nothing_runs 1;
  least = least_second;
  ascending = λ i j order under. absurd (omega arith);
  least_lanes = λ l m less contained held. absurd (only_lane l m less contained);
}

all_started : (members : List ℕ) → IsStartable scenario 1 in_sequence members → ⊥
all_started members startable =
    let first : (x : ℕ) × (get_or members 0 0 ≡ x) × Contains members x = first_of members startable.ready.group.some in
    each_below (λ x. Contains members x → ⊥) 2
    ((λ has. startable.ready.fresh 0 has (0, (false, (0, lit< tt, refl)))), ((λ has. startable.ready.fresh 1 has (0, (false, (2, lit< tt, refl)))), tt))
    first.0 (startable.ready.group.inside first.0 first.2) first.2

pub makes : Core scenario 1 commands in_sequence
makes =
    Then [] [] in_sequence (Close 0) _ (Idle 0 (λ runs. not-suc-le-zero runs.0.1.1.1))
    (Then [] first_runs in_sequence Open _ (Opened (0 ∷ []) (0 ∷ []) opens_first)
    (Then first_runs first_runs in_sequence Open _ (Shut no_lane_idle)
    (Then first_runs first_runs in_sequence (Close 1) _ (Idle 1 (λ runs. differ 1 1 (each_start (λ a l. nat_eq a 1 ≡ false) first_runs (refl, tt) 1 runs.0.0 runs.0.1) refl))
    (Then first_runs first_ended in_sequence (Close 0) _ (Closed 0 runs_first)
    (Then first_ended second_runs in_sequence Open _ (Opened (1 ∷ []) (0 ∷ []) opens_second)
    (Then second_runs in_sequence in_sequence (Close 1) _ (Closed 1 runs_second)
    (Then in_sequence in_sequence in_sequence Open _ (Shut all_started) (Done in_sequence))))))))
