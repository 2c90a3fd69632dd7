-- Facts: what is known ahead, what a plan looks at, and which values are read.
use Rattle.std.specs.Prelude.{◌≡◌, ◌<◌, ℕ, pos, List, [], ◌∷◌, true, false, Some, slice_get}
use Rattle.std.proofs.Common.{refl, sym, ap, subst, inl, lit<, arith}
use Rattle.rand_core.specs.Steps.{u32_at, word_bytes}
use Rattle.rand_core.specs.Pcg32Seed.{pcg32_seed}
use Rattle.pst_rng.specs.Words.{generator_at}
use Rattle.pst_expr.specs.Spans.{numbers_from}
use Rattle.pst_model.specs.ActivityTree.{Schedule}
use Rattle.pst_model.specs.ModelTree.{ActionTree}
use Rattle.pst_model.specs.Trials.{lone, action as plain, AreTrials}
use Rattle.pst_scen.specs.declared.tree.Fill.TheVariants as fill
use Rattle.pst_scen.specs.declared.act.Act.{Act}
use Rattle.pst_scen.specs.declared.act.Link.TheVariants as link
use Rattle.pst_scen.specs.Flows.{Reads, Writes}
use Rattle.pst_scen.specs.Order.{Must}
use Rattle.pst_scen.specs.Conflicts.{Resource, Conflict}
use Rattle.pst_scen.specs.Laws.{IsPreorder}
use Rattle.pst_scen.specs.Plans.{Contend}
use Rattle.pst_scen.specs.Scenarios.{AreLinked, IsScenario, IsWellFormed}
use Rattle.pst_legal.specs.Types.{action_field}
use Rattle.pst_legal.specs.Standing.{field_span}
use Rattle.pst_legal.specs.ValueReading.{Answer, Options, Dead, Whole, read}
use Rattle.pst_built.specs.GoesOn.{MoreAct, GoesOn}
use Rattle.pst_built.specs.Known.{Allows, InDomains}
use Rattle.pst_built.specs.Laws.{IsConcreteRoot, ScenariosAreWellFormed}
use Rattle.pst_built.specs.OrderStaysLaws.{IsBarren}
use Rattle.pst_built.specs.SoFar.{HasRead}
use Rattle.pst_read_domains.specs.Laws.{ReadValuesAreInDomains}
use Rattle.pst_order_ahead.specs.Ahead.{MustAhead, AfterFirst}
use Rattle.pst_order_ahead.specs.LaidOut.{IsLaidOut, ReadsTree}
use Rattle.pst_trials.specs.Locks.{model as locking, twice, scenario as locked, choices, LocksAreTried}
use Rattle.pst_trials.proofs.Cases.{each, none_some, some_same}
use Rattle.pst_trials.proofs.Orders.{each_must_alone, each_cause, each_before, each_contend, each_conflict}
use Rattle.pst_trials.proofs.Traces.{preorder_by}
use Rattle.pst_trials.proofs.Legality.{differ, in_preorder, are_linked, no_firsts}
use Rattle.pst_law_trials.specs.Models.{claims, claiming}
use Rattle.pst_law_trials.specs.Premises.{both_open, second_open}
use Rattle.pst_law_trials.specs.Ahead.{writing, ring, crossed, valued, descending}
use Rattle.pst_law_trials.proofs.PlacesTried.{contend}

-- ---- what is known ahead

pub reads_ring : read writing 2 1 0 (0 ∷ 0 ∷ 0 ∷ 0 ∷ 1 ∷ 1 ∷ 2 ∷ []) ≡ Whole ring
unfolding generator_at u32_at pcg32_seed word_bytes numbers_from
reads_ring = refl

reads_first : Reads ring 2 0 link.Initial
reads_first = record { act = _; reference = 0; filled = _; is_act = refl; is = refl; of_flow = refl; of_pool = refl; linked = refl }

writes : Writes ring 0 0 (link.Act 1 0)
writes = record { act = _; reference = 0; filled = _; is_act = refl; is = refl; of_flow = refl; of_pool = refl; linked = refl }

pub comes_ahead : MustAhead ring 2 0
comes_ahead = AfterFirst 2 0 0 (link.Act 1 0) (differ 2 0 refl) (inl reads_first) writes

in_order : IsPreorder ring.nodes
in_order = preorder_by ring.nodes (refl, (refl, (refl, (refl, tt))))

-- nothing comes behind the reader
from_writers : (a b : ℕ) → Must ring a b → a < 2
from_writers =
    each_must_alone (λ a b. a < 2) ring tt (λ a c b first second. first)
    (each_cause (λ a b. a < 2) ring (each_before (λ a b. a < 2) ring in_order (lit< tt, (lit< tt, (lit< tt, tt)))) (lit< tt, (lit< tt, tt)))

pub doesn't_come : Must ring 2 0 → ⊥
doesn't_come must = let less : 2 < 2 = from_writers 2 0 must in omega (arith, less)

pub isn't_barren : LocksAreTried → IsBarren (locking true (Schedule twice)) 1 1 0 choices → ⊥
isn't_barren tried barren = barren [] (locked true fill.Schedule) (record { reads = tried.reads_any_order; legal = tried.locks_are_legal })

-- each contends with itself alone
pub agree : Contend (claiming 1 0) 0 1 → ⊥
agree both = differ 0 1 refl (each_contend (λ a b. a ≡ b) (claiming 1 0) (refl, tt) 0 1 both)

pub reads_tree : ReadsTree claims 2 1 0 (0 ∷ 0 ∷ 0 ∷ [])
unfolding generator_at u32_at pcg32_seed word_bytes numbers_from
reads_tree = (both_open, 3, [], refl)

abbrev first_of : List ℕ → ℕ
first_of [] = 0
first_of (x ∷ xs) = x

pub isn't_laid_out : IsLaidOut crossed → ⊥
isn't_laid_out is = differ 1 0 refl (ap first_of is.leaves.numbers)

-- ---- what a plan looks at

pub linked : AreLinked second_open.actions × AreLinked (claiming 1 1).actions
linked = (are_linked second_open.actions (tt, (tt, tt)), are_linked (claiming 1 1).actions (tt, (tt, tt)))

second_is : IsScenario second_open
second_is = record {
  nodes = in_preorder second_open.nodes (tt, (refl, (refl, (refl, tt))));
  leaves = record { numbers = refl; nodes = refl };
  links = are_linked second_open.actions (tt, (tt, tt));
  firsts = no_firsts 0 second_open.nodes second_open.actions tt;
}

both_is : IsScenario (claiming 1 1)
both_is = record {
  nodes = in_preorder (claiming 1 1).nodes (tt, (refl, (refl, (refl, tt))));
  leaves = record { numbers = refl; nodes = refl };
  links = are_linked (claiming 1 1).actions (tt, (tt, tt));
  firsts = no_firsts 0 (claiming 1 1).nodes (claiming 1 1).actions tt;
}

pub formed : ScenariosAreWellFormed → IsWellFormed second_open × IsWellFormed (claiming 1 1)
formed are = (are second_open second_is (record { acts = lit< tt; nodes = lit< tt }), are (claiming 1 1) both_is (record { acts = lit< tt; nodes = lit< tt }))

-- the action of that number goes on to one of the second scenario
abbrev Goes : ℕ → Act → Type 0
Goes k x = (y : Act) × (slice_get (claiming 1 1).actions k ≡ Some y) × MoreAct x y

pub goes_on : GoesOn second_open (claiming 1 1)
goes_on = record {
  nodes = λ k x is. (x, is, record { parent = refl; fill = refl });
  acts = each Goes second_open.actions (
    (_, refl, record { references = λ k x is. absurd (none_some x is); claims = λ k x is. (x, is, record { pool = refl; lock = refl; instance = refl }) }),
    ((_, refl, record { references = λ k x is. absurd (none_some x is); claims = λ k x is. absurd (none_some x is) }), tt),
  );
}

pub conflict : Conflict (claiming 1 1) 0 1
conflict = (differ 0 1 refl, Resource contend.pool contend.instance contend.own contend.other contend.a_claims contend.b_claims contend.by_lock)

pub no_conflict_yet : Conflict second_open 0 1 → ⊥
no_conflict_yet both = both.0 (each_conflict (λ a b. a ≡ b) second_open (refl, tt) tt tt 0 1 both.1)

-- ---- which values are read

pub eight : read lone 0 1 0 (0 ∷ []) ≡ Options (valued []) 8
unfolding generator_at u32_at pcg32_seed word_bytes numbers_from
eight = refl

pub last_first : read lone 0 1 0 (0 ∷ 0 ∷ []) ≡ Whole (valued (pos 7 ∷ []))
unfolding generator_at u32_at pcg32_seed word_bytes numbers_from
last_first = refl

pub first_second : read lone 0 1 0 (0 ∷ 1 ∷ []) ≡ Whole (valued (pos 0 ∷ []))
unfolding generator_at u32_at pcg32_seed word_bytes numbers_from
first_second = refl

pub no_ninth : read lone 0 1 0 (0 ∷ 8 ∷ []) ≡ Dead
unfolding generator_at u32_at pcg32_seed word_bytes numbers_from
no_ninth = refl

above_seven : Allows (field_span (action_field lone 0 0)) (pos 8) → ⊥
above_seven inside = inside.1.le

pub beyond : InDomains lone (valued (pos 8 ∷ [])) → ⊥
beyond in_domains = above_seven (in_domains.fields 0 _ 0 (pos 8) refl refl)

concrete : IsConcreteRoot lone 0
concrete type is = subst (λ (t : ActionTree). t.is_abstract ≡ false) (some_same plain type is) refl

pub isn't_read : ReadValuesAreInDomains → AreTrials → (choices : List ℕ) → read lone 0 1 0 choices ≡ Whole (valued (pos 8 ∷ [])) → ⊥
isn't_read in_domains trials choices is =
    beyond (in_domains lone 0 1 0 choices (valued (pos 8 ∷ [])) trials.sound concrete (subst (λ (answer : Answer). HasRead answer (valued (pos 8 ∷ []))) (sym is) refl))

pub reads_zero : read descending 0 1 0 (0 ∷ 0 ∷ []) ≡ Whole (valued (pos 0 ∷ []))
unfolding generator_at u32_at pcg32_seed word_bytes numbers_from
reads_zero = refl

below_five : Allows (field_span (action_field descending 0 0)) (pos 0) → ⊥
below_five inside = inside.0.le

pub zero_is_beyond : InDomains descending (valued (pos 0 ∷ [])) → ⊥
zero_is_beyond in_domains = below_five (in_domains.fields 0 _ 0 (pos 0) refl refl)
