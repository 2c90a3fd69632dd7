-- Facts: The number of a claimed resource instance, and the values of its fields.
use Rattle.std.specs.Prelude.{◌≡◌, pos, [], ◌∷◌, true, false, Some}
use Rattle.pst_model.specs.ConstraintTree.{Own, ClaimId, ClaimField, Id}
use Rattle.pst_legal.specs.Blanks.{Instance, OfClaim as OfClaimBlank}
use Rattle.pst_legal.specs.Standing.{Known, Lacking, Open}
use Rattle.pst_legal.specs.Slots.{act_slot, resource_slot}
use Rattle.pst_legal.specs.Constraints.{HasConstraint, value_at}
use Rattle.pst_legal.specs.First.{IsLive}
use Rattle.pst_legal.specs.ValueReading.{Whole, read}
use Rattle.pst_trials.specs.Parts.{span, claim, places}
use Rattle.std.proofs.Common.{refl}
use Rattle.rand_core.specs.Steps.{u32_at, word_bytes}
use Rattle.rand_core.specs.Pcg32Seed.{pcg32_seed}
use Rattle.pst_rng.specs.Words.{generator_at}
use Rattle.pst_expr.specs.Spans.{numbers_from}
use Rattle.pst_trials.specs.ClaimValues.{five_more, is_second, above_five, resource, model, act, scenario_with, filling, unread}
use Rattle.pst_legal.specs.Constraints.{OfClaim, OfAct, is_refused_at}
use Rattle.pst_legal.specs.First.{NoneRefused}
use Rattle.pst_trials.proofs.Legality.{Property, each_constraint, none_inline}
use Rattle.std.proofs.Common.{lit<, true≢false}

pub reads : read model 0 1 0 (0 ∷ 0 ∷ 6 ∷ []) ≡ Whole filling
unfolding generator_at u32_at pcg32_seed word_bytes numbers_from
reads = refl

pub options : places model 0 1 0 (0 ∷ 0 ∷ 6 ∷ []) ≡ Some 1 ∷ Some 2 ∷ Some 16 ∷ []
unfolding generator_at u32_at pcg32_seed word_bytes numbers_from
options = refl

pub instance_open : act_slot model (scenario_with unread) 0 unread (ClaimId 0) ≡ Open (Instance 0 0) (span 0 1)
unfolding generator_at u32_at pcg32_seed word_bytes numbers_from
instance_open = refl

pub field_open : act_slot model (scenario_with unread) 0 unread (ClaimField 0 0) ≡ Open (OfClaimBlank 0 0 0) (span 0 15)
unfolding generator_at u32_at pcg32_seed word_bytes numbers_from
field_open = refl

pub own_open : resource_slot model 0 unread 0 Id ≡ Open (Instance 0 0) (span 0 1)
unfolding generator_at u32_at pcg32_seed word_bytes numbers_from
own_open = refl

pub instance_known : act_slot model (scenario_with (act 1 [])) 0 (act 1 []) (ClaimId 0) ≡ Known (pos 1)
unfolding generator_at u32_at pcg32_seed word_bytes numbers_from
instance_known = refl

pub field_still_open : resource_slot model 0 (act 1 []) 0 (Own 0) ≡ Open (OfClaimBlank 0 0 0) (span 0 15)
unfolding generator_at u32_at pcg32_seed word_bytes numbers_from
field_still_open = refl

pub own_known : resource_slot model 0 (act 1 (pos 6 ∷ [])) 0 Id ≡ Known (pos 1)
unfolding generator_at u32_at pcg32_seed word_bytes numbers_from
own_known = refl

pub field_known : act_slot model filling 0 (act 1 (pos 6 ∷ [])) (ClaimField 0 0) ≡ Known (pos 6)
unfolding generator_at u32_at pcg32_seed word_bytes numbers_from
field_known = refl

pub no_second_claim : act_slot model filling 0 (act 1 (pos 6 ∷ [])) (ClaimId 1) ≡ Lacking
unfolding generator_at u32_at pcg32_seed word_bytes numbers_from
no_second_claim = refl

pub six : value_at five_more (resource_slot model 0 (act 1 (pos 6 ∷ [])) 0) ≡ Some (pos 1)
unfolding generator_at u32_at pcg32_seed word_bytes numbers_from
six = refl

pub seven : value_at five_more (resource_slot model 0 (act 1 (pos 7 ∷ [])) 0) ≡ Some (pos 0)
unfolding generator_at u32_at pcg32_seed word_bytes numbers_from
seven = refl

pub second : value_at is_second (act_slot model filling 0 (act 1 (pos 6 ∷ []))) ≡ Some (pos 1)
unfolding generator_at u32_at pcg32_seed word_bytes numbers_from
second = refl

pub above : value_at above_five (act_slot model filling 0 (act 1 (pos 6 ∷ []))) ≡ Some (pos 1)
unfolding generator_at u32_at pcg32_seed word_bytes numbers_from
above = refl

-- ---- the constraint of the resource

pub has_unread : HasConstraint model (scenario_with unread) five_more (resource_slot model 0 unread 0)
has_unread = OfClaim 0 0 unread _ (claim true 0) resource five_more (record { is = refl; of_type = refl }) refl refl (0, lit< tt, refl)

pub has : HasConstraint model filling five_more (resource_slot model 0 (act 1 (pos 6 ∷ [])) 0)
has = OfClaim 0 0 (act 1 (pos 6 ∷ [])) _ (claim true 0) resource five_more (record { is = refl; of_type = refl }) refl refl (0, lit< tt, refl)

pub first_is_refused : IsLive model 0 1 0 (0 ∷ 1 ∷ []) → ⊥
unfolding generator_at u32_at pcg32_seed word_bytes numbers_from
first_is_refused live = true≢false (live.live is_second _ (OfAct 0 (act 0 []) _ is_second (record { is = refl; of_type = refl }) (0, lit< tt, refl)))

abbrev Passes : Property
Passes standing k = is_refused_at k standing ≡ false

second_passes : NoneRefused model (scenario_with (act 1 []))
second_passes = each_constraint Passes model (scenario_with (act 1 [])) (record {
  inlines = none_inline Passes model (scenario_with (act 1 [])) (tt, tt);
  compounds = (tt, tt);
  acts = ((refl, (refl, tt)), tt);
  claims = (((refl, tt), tt), tt);
  outputs = (tt, tt);
  firsts = (tt, tt);
})

pub second_is_live : IsLive model 0 1 0 (0 ∷ 0 ∷ [])
unfolding generator_at u32_at pcg32_seed word_bytes numbers_from
second_is_live = record { some = λ e. cc e; live = second_passes }
