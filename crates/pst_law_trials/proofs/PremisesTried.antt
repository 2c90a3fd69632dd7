-- Facts: what the laws of reading say of small instances, and what fails where a premise is taken away.
use Rattle.std.specs.Prelude.{◌≡◌, ℕ, List, [], ◌∷◌, Contains, true, false, Some, slice_get}
use Rattle.std.proofs.Common.{zero, suc, ◌≤◌, nat_lt, Bool, if◌then◌else◌, refl, sym, ap, ◌∙◌, inl, inr, lit<, arith, subst, true≢false}
use Rattle.std.proofs.lemmas.Bool.{lt-ltb, le-ltb}
use Rattle.std.proofs.lemmas.List.Elements.{All-cons, All-nil}
use Rattle.rand_core.specs.Steps.{u32_at, word_bytes}
use Rattle.rand_core.specs.Pcg32Seed.{pcg32_seed}
use Rattle.pst_rng.specs.Words.{generator_at}
use Rattle.pst_expr.specs.Spans.{numbers_from}
use Rattle.pst_model.specs.declared.object.ObjectKind.TheVariants.{Buffer, Resource}
use Rattle.pst_model.specs.ConstraintTree.{Object, Prev}
use Rattle.pst_model.specs.ModelTree.{ActionTree}
use Rattle.pst_model.specs.Served.{IsServed, ComesBefore}
use Rattle.pst_model.specs.Sound.{IsSoundObject, IsSoundAction, IsSoundReference, IsSound}
use Rattle.pst_model.proofs.Pairs.{pairs_nil}
use Rattle.pst_model.proofs.Under.{same_some}
use Rattle.pst_model.specs.Trials.{AreTrials}
use Rattle.pst_scen.specs.declared.act.Link.TheVariants as link
use Rattle.pst_scen.specs.declared.scenario.Scenario.{Scenario}
use Rattle.pst_legal.specs.Blanks.{Blank, Instance, OfOutput, options}
use Rattle.pst_legal.specs.Fits.{Fits}
use Rattle.pst_legal.specs.Standing.{Open}
use Rattle.pst_legal.specs.Slots.{act_slot, output_slot, first_object_slot}
use Rattle.pst_legal.specs.Constraints.{HasConstraint, OfOutput as OfWritten, is_refused_at}
use Rattle.pst_legal.specs.First.{IsBefore, ReadsLegal, NoneBefore, AreLive}
use Rattle.pst_legal.specs.Reading.{Reading, Wants, Stops, Reader, then_read}
use Rattle.pst_legal.specs.ValueReading.{Options, Dead, Whole, answer_of, read}
use Rattle.pst_built.specs.OrderStaysLaws.{IsBarren}
use Rattle.pst_built.specs.LongerLaws.{IsAtPlace}
use Rattle.pst_slots.specs.Decided.{IsPlaced}
use Rattle.pst_list_order.specs.Passed.{NonePassed}
use Rattle.pst_few_places.specs.Laws.{AgreeAt}
use Rattle.pst_read_legal.specs.ReadNumbersLaws.{WholeReadingsAreNumbered}
use Rattle.pst_read_so_far.specs.Joined.{JoinOpenEnds}
use Rattle.pst_read_so_far.specs.OpenBlanks.{open_blanks, to_come}
use Rattle.pst_trials.specs.Parts.{span, output, bare, root_node, scenario_of}
use Rattle.pst_trials.specs.Inference.{model as inferring, scenario as inferred, InferenceIsTried}
use Rattle.pst_trials.specs.Supplies.{shared, SuppliesAreTried}
use Rattle.pst_trials.proofs.Cases.{none_some, each_contained}
use Rattle.pst_law_trials.specs.Models.{buffers, claims, claiming, states, at_first}
use Rattle.pst_law_trials.specs.Premises.{both_open, second_open, one_there, of_before, unsound, sender, joined_ends, unlinked_reader, unlinked, abstract_action, abstract_root, alone, swapped, first_has}

-- ---- longer lists

pub place : read claims 2 1 0 (0 ∷ 0 ∷ 0 ∷ []) ≡ Options both_open 2
unfolding generator_at u32_at pcg32_seed word_bytes numbers_from
place = refl

pub no_option : read claims 2 1 0 (0 ∷ 0 ∷ 0 ∷ 2 ∷ []) ≡ Dead
unfolding generator_at u32_at pcg32_seed word_bytes numbers_from
no_option = refl

pub an_option : read claims 2 1 0 (0 ∷ 0 ∷ 0 ∷ 0 ∷ []) ≡ Options second_open 2
unfolding generator_at u32_at pcg32_seed word_bytes numbers_from
an_option = refl

pub stays_dead : (more : List ℕ) → read claims 2 1 0 (0 ∷ 0 ∷ 0 ∷ 2 ∷ more) ≡ Dead
unfolding generator_at u32_at pcg32_seed word_bytes numbers_from
stays_dead more = refl

at_place : (s : Scenario) (n : ℕ) → IsAtPlace claims 2 1 0 (0 ∷ 0 ∷ 0 ∷ 2 ∷ []) s n → Dead ≡ Options s n
at_place s n at = sym no_option ∙ at.is [] ∙ ap (λ b. answer_of (if b then Wants s n else Stops)) (lt-ltb 0 n at.some)

dead_is_none : (s : Scenario) (n : ℕ) → Dead ≡ Options s n → ⊥
dead_is_none s n e = cc

pub no_place : (s : Scenario) (n : ℕ) → IsAtPlace claims 2 1 0 (0 ∷ 0 ∷ 0 ∷ 2 ∷ []) s n → ⊥
no_place s n at = dead_is_none s n (at_place s n at)

pub whole_ends : read claims 2 1 0 (0 ∷ 0 ∷ 0 ∷ 0 ∷ 0 ∷ 0 ∷ []) ≡ Dead
unfolding generator_at u32_at pcg32_seed word_bytes numbers_from
whole_ends = refl

pub others_go_on : read claims 2 1 0 (0 ∷ 0 ∷ 0 ∷ 0 ∷ 0 ∷ []) ≡ Whole (claiming 1 0)
unfolding generator_at u32_at pcg32_seed word_bytes numbers_from
others_go_on = refl

-- ---- blanks

pub two_open : open_blanks claims both_open ≡ Instance 0 0 ∷ Instance 1 0 ∷ []
two_open = refl

pub two_to_come : to_come claims 2 1 0 (0 ∷ 0 ∷ 0 ∷ []) both_open ≡ Instance 0 0 ∷ Instance 1 0 ∷ []
unfolding generator_at u32_at pcg32_seed word_bytes numbers_from
two_to_come = refl

pub one_open : open_blanks claims second_open ≡ Instance 1 0 ∷ []
one_open = refl

pub one_to_come : to_come claims 2 1 0 (0 ∷ 0 ∷ 0 ∷ 0 ∷ []) second_open ≡ Instance 1 0 ∷ []
unfolding generator_at u32_at pcg32_seed word_bytes numbers_from
one_to_come = refl

pub not_yet : read claims 2 1 0 (0 ∷ 0 ∷ []) ≡ Options one_there 1
unfolding generator_at u32_at pcg32_seed word_bytes numbers_from
not_yet = refl

pub open_already : open_blanks claims one_there ≡ Instance 0 0 ∷ []
open_already = refl

pub other_options : options claims one_there.actions (Instance 0 0) ≡ 2
other_options = refl

pub reads_ends : read unsound 2 1 0 (0 ∷ 0 ∷ 0 ∷ 0 ∷ []) ≡ Options joined_ends 2
unfolding generator_at u32_at pcg32_seed word_bytes numbers_from
reads_ends = refl

pub has_constraint : HasConstraint unsound joined_ends of_before (output_slot unsound joined_ends 0 0 sender)
has_constraint = OfWritten 0 0 sender _ of_before refl refl refl (0, lit< tt, refl)

pub is_open : output_slot unsound joined_ends 0 0 sender (Prev 0) ≡ Open (OfOutput 1 0 0) (span 0 1)
is_open = refl

other_act : OfOutput 0 0 0 ≡ OfOutput 1 0 0 → ⊥
other_act e = cc

pub waits_for_nothing : Contains (open_blanks unsound joined_ends) (OfOutput 1 0 0) → ⊥
waits_for_nothing has = each_contained (λ (blank : Blank). blank ≡ OfOutput 1 0 0 → ⊥) (open_blanks unsound joined_ends) (other_act, tt) (OfOutput 1 0 0) has refl

pub reads_unlinked : read states 2 1 0 (0 ∷ 0 ∷ []) ≡ Options unlinked 1
unfolding generator_at u32_at pcg32_seed word_bytes numbers_from
reads_unlinked = refl

pub isn't_placed : IsPlaced (act_slot states unlinked 0 unlinked_reader (Object 0 0)) → ⊥
isn't_placed is = is

other_end : link.Act 1 0 ≡ link.Act 2 0 → ⊥
other_end e = cc

pub joins_no_open_ends : JoinOpenEnds shared → ⊥
joins_no_open_ends joins = other_end (joins.streams 2 0 0 0 _ _ refl refl refl refl)

-- ---- what is read fits, and what is legal is read

not_resource : Buffer ≡ Resource → ⊥
not_resource e = cc

sound_action : IsSoundAction abstract_root abstract_action
sound_action = record {
  few_fields = omega arith;
  few_references = omega arith;
  few_claims = omega arith;
  fields = All-nil _;
  references = All-cons (IsSoundReference abstract_root.objects) (output 0) [] not_resource (All-nil (IsSoundReference abstract_root.objects));
  claims = All-nil _;
  constraints = All-nil _;
  content = record { few = omega arith; numbered = λ k local e. absurd cc; steps = All-nil _ };
}

served_of : (n : ℕ) (a : ActionTree) → slice_get (abstract_action ∷ []) n ≡ Some a → IsServed abstract_root n a
served_of zero a e = subst (λ (x : ActionTree). IsServed abstract_root 0 x) (same_some abstract_action a e) (λ atomic concrete i part is same r below. absurd (true≢false concrete))
served_of (suc n) a e = absurd cc

pub sound : AreTrials → IsSound abstract_root
sound trials = record {
  actions = All-cons (IsSoundAction abstract_root) abstract_action [] sound_action (All-nil (IsSoundAction abstract_root));
  objects = All-cons IsSoundObject (bare Buffer) [] (record { few_fields = omega arith; fields = All-nil _; constraints = All-nil _ }) (All-nil IsSoundObject);
  few_instances = omega arith;
  instances = trials.sound.instances;
  pools = All-nil _;
  functions = All-nil _;
  order = pairs_nil ComesBefore;
  served = All-nil _;
  whole = served_of;
}

pub reads_alone : read abstract_root 0 1 0 (0 ∷ []) ≡ Whole alone
unfolding generator_at u32_at pcg32_seed word_bytes numbers_from
reads_alone = refl

pub doesn't_fit : Fits abstract_root 0 alone → ⊥
doesn't_fit fits = none_some 0 ((fits.values.acts 0 _ refl).references 0 _ refl).pool

pub isn't_read : WholeReadingsAreNumbered → SuppliesAreTried → (choices : List ℕ) → read buffers 2 1 2 choices ≡ Whole swapped → ⊥
isn't_read numbered supplies choices e = supplies.other_order (numbered buffers 2 1 2 choices swapped e)

pub lives : read buffers 2 1 0 (0 ∷ []) ≡ Options (scenario_of 0 (root_node 2 [] ∷ []) [] []) 1
unfolding generator_at u32_at pcg32_seed word_bytes numbers_from
lives = refl

dead_if : (test : Bool) (reading : Reading) (go : Reader) → test ≡ false → answer_of (then_read (if test then reading else Stops) go) ≡ Dead
dead_if false reading go is = refl
dead_if true reading go is = absurd (true≢false is)

pub dies : (more : List ℕ) → read buffers 2 1 0 (0 ∷ 0 ∷ 0 ∷ more) ≡ Dead
unfolding generator_at u32_at pcg32_seed word_bytes numbers_from
dies [] = refl
dies (digit ∷ more) = dead_if (nat_lt digit 0) _ _ (let least : 0 ≤ digit = omega arith in le-ltb digit 0 least)

-- ---- refusals

pub refused_at_one : is_refused_at at_first (first_object_slot states (first_has 1) 0) ≡ true
refused_at_one = refl

pub open_at_zero : is_refused_at at_first (first_object_slot states (first_has 0) 0) ≡ false
open_at_zero = refl

pub open_before : is_refused_at at_first (first_object_slot states unlinked 0) ≡ false
open_before = refl

pub reads_legal : InferenceIsTried → ReadsLegal inferring 2 1 1 (0 ∷ 0 ∷ 0 ∷ []) inferred
reads_legal tried = record { reads = tried.reads; legal = tried.legal }

pub isn't_barren : InferenceIsTried → IsBarren inferring 2 1 1 [] → ⊥
isn't_barren tried barren = barren (0 ∷ 0 ∷ 0 ∷ []) inferred (reads_legal tried)

pub places_keep : InferenceIsTried → ((other : List ℕ) → AgreeAt [] other [] → (t : Scenario) → ReadsLegal inferring 2 1 1 (0 ∷ 0 ∷ 0 ∷ other) t → ⊥) → ⊥
places_keep tried none = none [] (λ i has. refl) inferred (reads_legal tried)

-- ---- the order of lists

pub not_down : InferenceIsTried → NoneBefore inferring 2 1 1 (0 ∷ 0 ∷ 0 ∷ 0 ∷ []) → ⊥
not_down tried none = none (0 ∷ 0 ∷ 0 ∷ []) inferred (inr (refl, inr (refl, inr (refl, tt)))) (reads_legal tried)

pub not_over : InferenceIsTried → NonePassed inferring 2 1 1 (0 ∷ []) → ⊥
not_over tried none = none (0 ∷ 0 ∷ 0 ∷ []) inferred (inr (refl, tt)) (reads_legal tried)

pub doesn't_end : InferenceIsTried → NonePassed inferring 2 1 1 [] → ⊥
doesn't_end tried none = none (0 ∷ 0 ∷ 0 ∷ []) inferred tt (reads_legal tried)

pub not_dead : AreLive inferring 2 1 1 ((1 ∷ []) ∷ []) → ⊥
not_dead are = (are.live 0 [] (lit< tt)).live

itself : IsBefore (0 ∷ []) (0 ∷ []) → ⊥
itself (inl l) = omega (arith, l)
itself (inr e) = e.1

pub not_twice : AreLive inferring 2 1 1 ((0 ∷ []) ∷ (0 ∷ []) ∷ []) → ⊥
not_twice are = itself (are.rising 0 1 [] (lit< tt) (lit< tt))
