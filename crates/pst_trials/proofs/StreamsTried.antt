-- Facts: Two actions joined to partners by streams, where both partners are inferred.
use Rattle.std.specs.Prelude.{◌≡◌, ℕ, List, [], ◌∷◌, Some, true, false}
use Rattle.pst_scen.specs.declared.act.Flow.TheVariants.{StreamIn, StreamOut}
use Rattle.pst_scen.specs.declared.event.Event.{Event}
use Rattle.pst_scen.specs.declared.event.Event.TheVariants.{Start, End}
use Rattle.pst_scen.specs.Order.{Must, Together}
use Rattle.pst_scen.specs.Trace.{MayCome, Starts, IsWholeGroup, IsLegalTrace, IsWhole}
use Rattle.pst_legal.specs.Supplied.{AreNamedInTurn, linkings}
use Rattle.pst_legal.specs.ValueReading.{Whole, read}
use Rattle.pst_trials.specs.Parts.{places}
use Rattle.std.proofs.Common.{◌≡◌, ◌<◌, inl, inr, false, true, nat_eq, refl, sym, lit<, true≢false, get_or, Contains, not-suc-le-zero}
use Rattle.pst_scen.specs.Tree.{AtTop}
use Rattle.pst_scen.specs.Order.{Before, Sequence, Directly, Itself, Linked}
use Rattle.pst_scen.specs.Flows.{FromFirst}
use Rattle.pst_scen.specs.Conflicts.{Conflict}
use Rattle.pst_scen.specs.Trace.{Ends, Ended, MayStart, StartsOn}
use Rattle.pst_scen.specs.declared.act.Flow.TheVariants.{StateIn, StateOut}
use Rattle.pst_legal.specs.SupplyReading.{is_state}
use Rattle.std.proofs.Common.{eq-eqb, subst}
use Rattle.pst_scen.specs.Laws.{IsPreorder}
use Rattle.pst_trials.proofs.Cases.{each_contained, EachOf}
use Rattle.pst_trials.proofs.Orders.{each_conflict, each_must, each_cause, each_before, each_feeds, each_refers, each_together}
use Rattle.pst_trials.proofs.Traces.{When, due, on_start, each_start, each_below, preorder_by, here, runs_by, whole_by, no_joins}
use Rattle.pst_trials.proofs.Legality.{differ}
use Rattle.rand_core.specs.Steps.{u32_at, word_bytes}
use Rattle.rand_core.specs.Pcg32Seed.{pcg32_seed}
use Rattle.pst_rng.specs.Words.{generator_at}
use Rattle.pst_expr.specs.Spans.{numbers_from}
use Rattle.pst_trials.specs.Streams.{model, scenario, in_pairs}
use Rattle.pst_legal.specs.ValueReading.{Dead}
use Rattle.pst_trials.specs.Streams.{bound, kept}

pub reads : read model 2 1 2 (0 ∷ 0 ∷ 0 ∷ 0 ∷ 0 ∷ []) ≡ Whole scenario
unfolding generator_at u32_at pcg32_seed word_bytes numbers_from
reads = refl

pub options : places model 2 1 2 (0 ∷ 0 ∷ 0 ∷ 0 ∷ 0 ∷ []) ≡ Some 1 ∷ Some 1 ∷ Some 1 ∷ Some 2 ∷ Some 1 ∷ []
unfolding generator_at u32_at pcg32_seed word_bytes numbers_from
options = refl

-- ---- groups

in_order : IsPreorder scenario.nodes
in_order = preorder_by scenario.nodes (refl, (refl, (refl, tt)))

pub numbered : AreNamedInTurn (linkings scenario.actions) 2 4
numbered = (lit< tt, lit< tt, (lit< tt, lit< tt, (lit< tt, lit< tt, (lit< tt, lit< tt, refl))))

-- the first two members of a group of two are in order
two_ascending : (a b : ℕ) → a < b → (i j : ℕ) → i < j → j < 2 → get_or (a ∷ b ∷ []) i 0 < get_or (a ∷ b ∷ []) j 0
two_ascending a b less i j order under =
    each_below (λ j. (i : ℕ) → i < j → get_or (a ∷ b ∷ []) i 0 < get_or (a ∷ b ∷ []) j 0) 2
    ((λ i order. absurd (not-suc-le-zero order)), ((λ i order. each_below (λ i. get_or (a ∷ b ∷ []) i 0 < b) 1 (less, tt) i order), tt)) j under i order

abbrev first_group : List ℕ
first_group = 0 ∷ 2 ∷ []

abbrev second_group : List ℕ
second_group = 1 ∷ 3 ∷ []

to_partner : Together scenario 0 2
to_partner = Linked 0 2 Itself (FromFirst 0 0 StreamOut (inr refl) (record { act = _; reference = 0; filled = _; is_act = refl; is = refl; of_flow = refl; of_pool = refl; linked = refl }))

from_partner : Together scenario 2 0
from_partner = Linked 2 0 Itself (FromFirst 0 0 StreamIn (inl refl) (record { act = _; reference = 0; filled = _; is_act = refl; is = refl; of_flow = refl; of_pool = refl; linked = refl }))

to_second_partner : Together scenario 1 3
to_second_partner = Linked 1 3 Itself (FromFirst 0 0 StreamIn (inl refl) (record { act = _; reference = 0; filled = _; is_act = refl; is = refl; of_flow = refl; of_pool = refl; linked = refl }))

from_second_partner : Together scenario 3 1
from_second_partner = Linked 3 1 Itself (FromFirst 0 0 StreamOut (inr refl) (record { act = _; reference = 0; filled = _; is_act = refl; is = refl; of_flow = refl; of_pool = refl; linked = refl }))

pub together : Together scenario 0 2
together = to_partner

not_among : (a b c : ℕ) → nat_eq a c ≡ false → nat_eq b c ≡ false → Contains (a ∷ b ∷ []) c → ⊥
not_among a b c not_a not_b contained =
    differ c c (each_contained (λ x. nat_eq x c ≡ false) (a ∷ b ∷ []) (not_a, (not_b, tt)) c contained) refl

pub group : IsWholeGroup scenario first_group
group = record {
  some = lit< tt;
  ascending = two_ascending 0 2 (lit< tt);
  inside = each_contained (λ a. a < 4) first_group (lit< tt, (lit< tt, tt));
  one = λ a b in_a in_b. each_contained (λ a. Together scenario a b) first_group
      (each_contained (λ b. Together scenario 0 b) first_group (Itself, (to_partner, tt)) b in_b, (each_contained (λ b. Together scenario 2 b) first_group (from_partner, (Itself, tt)) b in_b, tt)) a in_a;
  whole = λ a b in_a. each_together (Contains first_group) scenario
      ((λ h. second), ((λ h. first), ((λ h. absurd (not_among 0 2 1 refl refl h)), ((λ h. absurd (not_among 0 2 3 refl refl h)), ((λ h. first), ((λ h. second), ((λ h. absurd (not_among 0 2 3 refl refl h)), ((λ h. absurd (not_among 0 2 1 refl refl h)), tt)))))))) a b in_a;
}
  where
    first : Contains first_group 0
    first = (0, lit< tt, refl)

    second : Contains first_group 2
    second = (1, lit< tt, refl)

group_of_second : IsWholeGroup scenario second_group
group_of_second = record {
  some = lit< tt;
  ascending = two_ascending 1 3 (lit< tt);
  inside = each_contained (λ a. a < 4) second_group (lit< tt, (lit< tt, tt));
  one = λ a b in_a in_b. each_contained (λ a. Together scenario a b) second_group
      (each_contained (λ b. Together scenario 1 b) second_group (Itself, (to_second_partner, tt)) b in_b, (each_contained (λ b. Together scenario 3 b) second_group (from_second_partner, (Itself, tt)) b in_b, tt)) a in_a;
  whole = λ a b in_a. each_together (Contains second_group) scenario
      ((λ h. absurd (not_among 1 3 0 refl refl h)), ((λ h. absurd (not_among 1 3 2 refl refl h)), ((λ h. second), ((λ h. first), ((λ h. absurd (not_among 1 3 2 refl refl h)), ((λ h. absurd (not_among 1 3 0 refl refl h)), ((λ h. first), ((λ h. second), tt)))))))) a b in_a;
}
  where
    first : Contains second_group 1
    first = (0, lit< tt, refl)

    second : Contains second_group 3
    second = (1, lit< tt, refl)

-- ---- order

before : Before scenario 0 1
before = record {
  sequence = 0;
  earlier = record {
    is_sequence = record { node = _; is = refl; in_order = tt };
    earlier = 1;
    later = 2;
    earlier_child = record { node = _; is = refl; in_parent = refl };
    later_child = record { node = _; is = refl; in_parent = refl };
    order = lit< tt;
    a_inside = record { leaf = 1; node = _; is = refl; of_act = refl; under = AtTop };
    b_inside = record { leaf = 2; node = _; is = refl; of_act = refl; under = AtTop };
  };
  awaited = no_joins scenario.nodes (refl, (refl, (refl, tt))) 0 0;
}

pub order : Must scenario 0 1
order = Directly 0 1 1 (differ 0 1 refl, Sequence before) Itself

pub order_of_partner : Must scenario 0 3
order_of_partner = Directly 0 1 3 (differ 0 1 refl, Sequence before) from_second_partner

from_first : (a b : ℕ) → Must scenario a b → a ≡ 0
from_first =
    each_must (λ a b. a ≡ 0) scenario (λ a c b first second. first)
    (λ a x b cause together. each_cause (λ a x. a ≡ 0) scenario (each_before (λ a x. a ≡ 0) scenario in_order (refl, tt)) tt a x cause)

pub partner_runs_on : Must scenario 2 1 → ⊥
partner_runs_on must = differ 2 0 refl (from_first 2 1 must)

-- ---- traces

pub not_alone : MayCome scenario 2 [] (Starts (0 ∷ []) (0 ∷ [])) → ⊥
not_alone may = differ 2 2 (each_contained (λ c. nat_eq c 2 ≡ false) (0 ∷ []) (refl, tt) 2 (may.group.whole 0 2 (here 0 []) to_partner)) refl

no_conflict : (a b : ℕ) → Conflict scenario a b → ⊥
no_conflict a b conflict = each_conflict (λ a b. ⊥) scenario tt tt tt a b conflict.1

-- two members start, after everything that started has ended
start_pair : (trace : List Event) (a b : ℕ) → IsWholeGroup scenario (a ∷ b ∷ [])
    → EachOf (on_start (λ c l. When (nat_eq a c) ⊥ × When (nat_eq b c) ⊥ × Ended trace c)) trace
    → ((x c : ℕ) → Contains (a ∷ b ∷ []) c → Before scenario x c → Ended trace x) → MayStart scenario 2 trace (a ∷ b ∷ []) (0 ∷ 1 ∷ [])
start_pair trace a b whole events sequence = record {
  group = whole;
  fresh = λ c in_c started. fresh c in_c (fact c started.0 started.1);
  free = record {
    many = refl;
    different = λ i j order under. differ (get_or (0 ∷ 1 ∷ []) i 0) (get_or (0 ∷ 1 ∷ []) j 0) (each_below (λ j. (i : ℕ) → i < j → nat_eq (get_or (0 ∷ 1 ∷ []) i 0) (get_or (0 ∷ 1 ∷ []) j 0) ≡ false) 2
        ((λ i order. absurd (not-suc-le-zero order)), ((λ i order. each_below (λ i. nat_eq (get_or (0 ∷ 1 ∷ []) i 0) 1 ≡ false) 1 (refl, tt) i order), tt)) j under i order);
    below = each_contained (λ l. l < 2) (0 ∷ 1 ∷ []) (lit< tt, (lit< tt, tt));
    idle = λ l in_l held. held.2 (fact held.0 l held.1).2;
  };
  sequence = sequence;
  buffer = λ x c in_c feeds. absurd (each_feeds (λ a b. ⊥) scenario tt x c feeds);
  source = λ c pool to in_c reads. absurd (true≢false (each_refers (λ a flow pool to. is_state flow ≡ false) scenario (refl, (refl, (refl, (refl, tt)))) c StateIn pool to reads));
  previous = λ c pool to in_c writes. absurd (true≢false (each_refers (λ a flow pool to. is_state flow ≡ false) scenario (refl, (refl, (refl, (refl, tt)))) c StateOut pool to writes));
  clear = λ x c runs in_c conflict. no_conflict x c conflict;
  apart = λ x c in_x in_c conflict. no_conflict x c conflict;
}
  where
    fact : (c l : ℕ) → StartsOn trace c l → When (nat_eq a c) ⊥ × When (nat_eq b c) ⊥ × Ended trace c
    fact = each_start (λ c l. When (nat_eq a c) ⊥ × When (nat_eq b c) ⊥ × Ended trace c) trace events

    fresh : (c : ℕ) → Contains (a ∷ b ∷ []) c → When (nat_eq a c) ⊥ × When (nat_eq b c) ⊥ × Ended trace c → ⊥
    fresh c in_c = each_contained (λ c. When (nat_eq a c) ⊥ × When (nat_eq b c) ⊥ × Ended trace c → ⊥) (a ∷ b ∷ [])
        ((λ f. due (nat_eq a a) ⊥ (eq-eqb a a refl) f.0), ((λ f. due (nat_eq b b) ⊥ (eq-eqb b b refl) f.1), tt)) c in_c

-- what comes before anything is action 0, before action 1
waits : (trace : List Event) (x c : ℕ) → Before scenario x c → (x ≡ 0) × (c ≡ 1)
waits trace = each_before (λ x c. (x ≡ 0) × (c ≡ 1)) scenario in_order ((refl, refl), tt)

pub both : MayCome scenario 2 [] (Starts (0 ∷ 2 ∷ []) (0 ∷ 1 ∷ []))
both = start_pair [] 0 2 group tt (λ x c in_c before. absurd (not_among 0 2 1 refl refl (subst (Contains first_group) (waits [] x c before).1 in_c)))

abbrev after_first : List Event
after_first = Start 0 0 true ∷ Start 2 1 false ∷ End 0 ∷ End 2 ∷ []

first_ended : Ended after_first 0
first_ended = (2, lit< tt, refl)

both_of_second : MayStart scenario 2 after_first second_group (0 ∷ 1 ∷ [])
both_of_second =
    start_pair after_first 1 3 group_of_second ((tt, tt, first_ended), ((tt, tt, (3, lit< tt, refl)), (tt, (tt, tt))))
    (λ x c in_c before. subst (Ended after_first) (sym (waits after_first x c before).0) first_ended)

pub trace : IsLegalTrace scenario 2 in_pairs
trace = record {
  blocks = Ends 1 ∷ Ends 3 ∷ Starts (1 ∷ 3 ∷ []) (0 ∷ 1 ∷ []) ∷ Ends 2 ∷ Ends 0 ∷ Starts (0 ∷ 2 ∷ []) (0 ∷ 1 ∷ []) ∷ [];
  are = refl;
  legal = (
    (
      (
        (
          (
            (
              tt,
              both,
            ),
            runs_by (Start 0 0 true ∷ Start 2 1 false ∷ []) 0 0 true (0, lit< tt, refl) (tt, (tt, tt)),
          ),
          runs_by (Start 0 0 true ∷ Start 2 1 false ∷ End 0 ∷ []) 2 1 false (1, lit< tt, refl) (tt, (tt, (tt, tt))),
        ),
        both_of_second,
      ),
      runs_by (Start 0 0 true ∷ Start 2 1 false ∷ End 0 ∷ End 2 ∷ Start 1 0 true ∷ Start 3 1 false ∷ []) 3 1 false (5, lit< tt, refl) (tt, (tt, (tt, (tt, (tt, (tt, tt)))))),
    ),
    runs_by (Start 0 0 true ∷ Start 2 1 false ∷ End 0 ∷ End 2 ∷ Start 1 0 true ∷ Start 3 1 false ∷ End 3 ∷ []) 1 0 true (4, lit< tt, refl) (tt, (tt, (tt, (tt, (tt, (tt, (tt, tt))))))),
  );
}

pub whole : IsWhole scenario in_pairs
whole = whole_by scenario in_pairs ((2, lit< tt, refl), ((7, lit< tt, refl), ((3, lit< tt, refl), ((6, lit< tt, refl), tt))))

-- ---- an end that a bind fixes

pub bound_options : places bound 2 1 1 (0 ∷ 0 ∷ 0 ∷ 0 ∷ 1 ∷ 0 ∷ []) ≡ Some 1 ∷ Some 1 ∷ Some 1 ∷ Some 1 ∷ Some 2 ∷ Some 1 ∷ []
unfolding generator_at u32_at pcg32_seed word_bytes
bound_options = refl

pub taken_end : read bound 2 1 1 (0 ∷ 0 ∷ 0 ∷ 0 ∷ 0 ∷ []) ≡ Dead
unfolding generator_at u32_at pcg32_seed word_bytes
taken_end = refl

pub kept_end : read bound 2 1 1 (0 ∷ 0 ∷ 0 ∷ 0 ∷ 1 ∷ 0 ∷ []) ≡ Whole kept
unfolding generator_at u32_at pcg32_seed word_bytes
kept_end = refl
