-- Claims of the actions of one slot.
use Rattle.std.proofs.Common.{◌≡◌, ◌≢◌, ◌⊎◌, ℕ, ◌+◌, ◌<◌, ◌≤◌, List, length, get_or, Bool, true, false, nat_eq, Option, Some, refl, sym, ap, ◌∙◌, subst, arith}
use Rattle.std.specs.Prelude.{slice_get}
use Rattle.std.proofs.lemmas.Bool.{false≢true, eqb-true, eq-eqb}
use Rattle.std.proofs.lemmas.Option.{same_Some}
use Rattle.pst_scen.specs.declared.scenario.Scenario.{Scenario}
use Rattle.pst_claim_rivals.specs.declared.claims.OpenClaim.{OpenClaim}
use Rattle.pst_claim_rivals.specs.Rivals.{Meet, Alone, Grouped, AreRivals}
use Rattle.pst_claim_counts.specs.declared.needs.Need.{Need}
use Rattle.pst_claim_counts.specs.Needs.{AreNeeded, IsNeed, no_need, IsNeedOf, AreNeeds, AreOrdered, IsListed, SlotsMeet, IsOwn}
use Rattle.pst_claim_counts.proofs.Sets.{weaker_set, weaker_need, one_need, joined_need, updated}

module _ (slots : List (Option ℕ)) (claims : List OpenClaim) (pool place : ℕ) where
  own_early : (n : ℕ) (x : OpenClaim) → IsOwn slots claims pool place n x → IsOwn slots claims pool (place + 1) n x
  own_early n x own = record {
    listed = record { on = own.listed.on; place = own.listed.place; early = (let l = own.listed.early in omega (arith, l)); is = own.listed.is };
    slot = own.slot;
  }

  pub own_stays : (s : Scenario) (needs : List Need) → AreNeeds s (IsOwn slots claims pool place) needs → AreNeeds s (IsOwn slots claims pool (place + 1)) needs
  own_stays s needs all = λ n l. weaker_need s (IsOwn slots claims pool place n) (IsOwn slots claims pool (place + 1) n) (get_or needs n no_need) (own_early n) (all n l)

  module _ (s : Scenario) (meet : SlotsMeet s slots) (ordered : AreOrdered claims) (claim : OpenClaim) (slot : ℕ) (at : slice_get claims place ≡ Some claim) (on : claim.pool ≡ Some pool) (has : slice_get slots claim.act ≡ Some (Some slot)) where
    meets : (x : OpenClaim) → IsOwn slots claims pool place slot x → Meet s x claim
    meets x own = by (nat_eq x.act claim.act) refl
      where
        by : (b : Bool) → nat_eq x.act claim.act ≡ b → Meet s x claim
        by true e = let same = eqb-true x.act claim.act e in Alone same (ordered own.listed.place place x claim own.listed.early own.listed.is at same)
        by false e = let off : x.act ≢ claim.act = λ same. false≢true (sym e ∙ eq-eqb x.act claim.act same) in Grouped off (meet x.act claim.act slot own.slot has off)

    new_own : (x : OpenClaim) → claim ≡ x → IsOwn slots claims pool (place + 1) slot x
    new_own x same = subst (IsOwn slots claims pool (place + 1) slot) same (record { listed = record { on = on; place = place; early = omega arith; is = at }; slot = has })

    pub own_more : (old new : List Need) (one need : Need) → IsNeedOf claim.lock one → slot < length old → need.locks ≤ (get_or old slot no_need).locks + one.locks
        → (need.all ≤ (get_or old slot no_need).locks + one.all) ⊎ (need.all ≤ (get_or old slot no_need).all + one.locks)
        → length new ≡ length old → get_or new slot no_need ≡ need → ((k : ℕ) → k ≢ slot → get_or new k no_need ≡ get_or old k no_need)
        → AreNeeds s (IsOwn slots claims pool place) old → AreNeeds s (IsOwn slots claims pool (place + 1)) new
    own_more old new one need of l few all many here others olds =
        updated s (IsOwn slots claims pool place) (IsOwn slots claims pool (place + 1)) old new slot need many here others own_early
        (joined_need s (IsOwn slots claims pool place slot) (λ x. claim ≡ x) (IsOwn slots claims pool (place + 1) slot) (own_early slot) new_own
        (λ x y own same lock. subst (AreRivals s x) same (record { on_pool = record { pool = pool; first = own.listed.on; second = on }; by_lock = subst (λ (z : OpenClaim). (x.lock ≡ true) ⊎ (z.lock ≡ true)) (sym same) lock; meet = meets x own }))
        (get_or old slot no_need) one need (olds slot l) (one_need s (λ x. claim ≡ x) claim one refl of) few all)
        olds
