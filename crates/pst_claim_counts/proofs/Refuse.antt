-- Claims that are too many refuse all longer lists.
use Rattle.std.proofs.Common.{◌≡◌, ◌≢◌, ℕ, suc, ◌+◌, ◌<◌, ◌≤◌, List, [], ◌∷◌, ◌++◌, length, All, Bool, true, false, nat_eq, Option, Some, None, refl, sym, ap, ap₂, ◌∙◌, subst, inl, inr, ⊎_elim, arith}
use Rattle.std.specs.Prelude.{slice_get}
use Rattle.std.specs.List.{AllZip, AllByRecursion, IsDistinct, list_any}
use Rattle.std.proofs.lemmas.Bool.{false_from_ne_true, eqb-true, or_cases}
use Rattle.std.proofs.lemmas.Map.Steps.{length-le_from_distinct_below}
use Rattle.std.proofs.lemmas.Option.{same_Some, slice_get_within}
use Rattle.pst_model.specs.declared.action.Claim.{Claim}
use Rattle.pst_model.specs.declared.model.Pool.{Pool}
use Rattle.pst_model.specs.ModelTree.{ModelTree, ActionTree}
use Rattle.pst_scen.specs.declared.act.Act.{Act}
use Rattle.pst_scen.specs.declared.act.Claimed.{Claimed}
use Rattle.pst_scen.specs.declared.scenario.Scenario.{Scenario}
use Rattle.pst_scen.specs.Refusals.{IsUnrefused}
use Rattle.pst_legal.specs.Types.{type_of, served_claim}
use Rattle.pst_legal.specs.Blanks.{claims_of}
use Rattle.pst_legal.specs.ValueReading.{Whole, read}
use Rattle.pst_legal.specs.Fits.{IsActOf, IsClaimOf}
use Rattle.pst_legal.specs.Legal.{Legal}
use Rattle.pst_legal.specs.First.{ReadsLegal}
use Rattle.pst_built.proofs.Lists.{get_below}
use Rattle.pst_built.specs.Onward.{Onward}
use Rattle.pst_built.specs.ReadOnwardLaws.{LongerListsKeepWhatIsKnown}
use Rattle.pst_read_legal.specs.Laws.{LegalIsUnrefused}
use Rattle.pst_built.specs.SoFar.{HasRead}
use Rattle.pst_built.specs.OrderStaysLaws.{OrderStays, OrdersStay}
use Rattle.pst_claim_rivals.specs.declared.claims.OpenClaim.{OpenClaim}
use Rattle.pst_claim_rivals.specs.Claims.{IsClaimed}
use Rattle.pst_claim_rivals.specs.Rivals.{Meet, Alone, Grouped, Beside, AreRivals, ClaimsInstance, RivalsDiffer}
use Rattle.pst_claim_counts.specs.Counts.{IsClaimOn, AreAllRivals, AreTooMany, TooManyClaimsRefuseLists}
use Rattle.pst_claim_counts.proofs.Sets.{all_head, all_tail}

-- ---- what stays

meets_on : (s t : Scenario) → OrderStays s t → (x y : OpenClaim) → Meet s x y → Meet t x y
meets_on s t stay x y (Alone same apart) = Alone same apart
meets_on s t stay x y (Grouped apart group) = Grouped apart (stay.together x.act y.act group)
meets_on s t stay x y (Beside apart stand) = Beside apart (stay.parallel x.act y.act stand)

rivals_on : (s t : Scenario) → OrderStays s t → (x y : OpenClaim) → AreRivals s x y → AreRivals t x y
rivals_on s t stay x y r = record { on_pool = r.on_pool; by_lock = r.by_lock; meet = meets_on s t stay x y r.meet }

-- ---- one claim

-- the claim claims an instance of so many
pub record IsNumbered (t : Scenario) (size : ℕ) (x : OpenClaim) (number : ℕ) : Type 0 where
  pub claims : ClaimsInstance t x number
  pub below : number < size

module _ (m : ModelTree) (s t : Scenario) (onward : Onward s t) (root : ℕ) (legal : Legal m root t) (pool : ℕ) (kept : Pool) (is_pool : slice_get m.pools pool ≡ Some kept) where
  numbered : (x : OpenClaim) → IsClaimOn m s pool x → (number : ℕ) × IsNumbered t kept.size x number
  numbered x on =
      let own = on.claimed in
      let y = onward.acts x.act own.act own.is_act in
      let of = legal.fits.values.acts x.act y.0 y.1 in
      let typed : type_of m own.act.action ≡ Some of.type = ap (type_of m) (sym y.2.action) ∙ of.is in
      let claim : slice_get of.type.claims x.claim ≡ Some own.claim = ap (λ o. slice_get (claims_of o) x.claim) (sym typed) ∙ own.is_claim in
      let within = slice_get_within of.type.claims x.claim own.claim claim in
      let many = of.many_claims in
      let c = get_below y.0.claims x.claim (omega (arith, within, many)) in
      let claimed = of.claims x.claim own.claim c.0 claim c.1 in
      let served : x.pool ≡ Some c.0.pool = own.served ∙ ap₂ (λ a b. served_claim m a b x.claim) (sym y.2.action) (sym y.2.instance) ∙ claimed.is_pool in
      let same : c.0.pool ≡ pool = same_Some c.0.pool pool (sym served ∙ on.on) in
      let size : claimed.pool ≡ kept = same_Some claimed.pool kept (sym claimed.is ∙ ap (slice_get m.pools) same ∙ is_pool) in (
        c.0.instance,
        record {
          claims = record { claimed = c.0; is = record { act = y.0; is_act = y.1; is = c.1 }; of_pool = served; by_lock = claimed.lock ∙ sym own.by_lock; instance = refl };
          below = subst (λ (p : Pool). c.0.instance < p.size) size claimed.within;
        },
      )

-- ---- all

module _ (s t : Scenario) (stay : OrderStays s t) (free : IsUnrefused t) (differ : RivalsDiffer) (size : ℕ) where
  abbrev Numbers : List OpenClaim → List ℕ → Type 0
  Numbers xs ns = AllZip (λ x n. IsNumbered t size x n) xs ns

  all_numbered : (xs : List OpenClaim) (P : OpenClaim → Type 0) → ((x : OpenClaim) → P x → (number : ℕ) × IsNumbered t size x number) → All P xs → (ns : List ℕ) × Numbers xs ns
  all_numbered [] P one all = ([], tt)
  all_numbered (x ∷ xs) P one all =
      let n = one x (all_head P x xs all) in
      let rest = all_numbered xs P one (all_tail P x xs all) in
      (n.0 ∷ rest.0, (n.1, rest.1))

  same_length : (xs : List OpenClaim) (ns : List ℕ) → Numbers xs ns → length xs ≡ length ns
  same_length [] [] zip = refl
  same_length [] (n ∷ ns) zip = absurd zip
  same_length (x ∷ xs) [] zip = absurd zip
  same_length (x ∷ xs) (n ∷ ns) zip = ap suc (same_length xs ns zip.1)

  unlike : (x : OpenClaim) (n : ℕ) → IsNumbered t size x n → (ys : List OpenClaim) (ks : List ℕ) → Numbers ys ks → All (AreRivals s x) ys → AllByRecursion (λ k. nat_eq n k ≡ false) ks
  unlike x n one [] [] zip all = tt
  unlike x n one [] (k ∷ ks) zip all = absurd zip
  unlike x n one (y ∷ ys) [] zip all = absurd zip
  unlike x n one (y ∷ ys) (k ∷ ks) zip all = (
    false_from_ne_true (nat_eq n k) (λ e. differ t x y n free (rivals_on s t stay x y (all_head (AreRivals s x) y ys all)) one.claims (subst (ClaimsInstance t y) (sym (eqb-true n k e)) zip.0.claims)),
    unlike x n one ys ks zip.1 (all_tail (AreRivals s x) y ys all),
  )

  distinct : (xs : List OpenClaim) (ns : List ℕ) → Numbers xs ns → AreAllRivals s xs → IsDistinct nat_eq ns
  unfolding IsDistinct
  distinct [] [] zip all = tt
  distinct [] (n ∷ ns) zip all = absurd zip
  distinct (x ∷ xs) [] zip all = absurd zip
  distinct (x ∷ xs) (n ∷ ns) zip all = (unlike x n zip.0 xs ns zip.1 all.0, distinct xs ns zip.1 all.1)

  below : (xs : List OpenClaim) (ns : List ℕ) → Numbers xs ns → (q : ℕ) → list_any (nat_eq q) ns ≡ true → q < size
  below [] [] zip q e = absurd cc
  below [] (n ∷ ns) zip q e = absurd zip
  below (x ∷ xs) [] zip q e = absurd zip
  below (x ∷ xs) (n ∷ ns) zip q e =
      ⊎_elim (λ h. subst (λ k. k < size) (sym (eqb-true q n h)) zip.0.below) (λ h. below xs ns zip.1 q h) (or_cases (nat_eq q n) (list_any (nat_eq q) ns) e)

  few : (xs : List OpenClaim) (ns : List ℕ) → Numbers xs ns → AreAllRivals s xs → length xs ≤ size
  few xs ns zip all =
      let short = length-le_from_distinct_below ns size (distinct xs ns zip all) (below xs ns zip) in
      let long = same_length xs ns zip in
      omega (arith, short, long)

pub refuse : RivalsDiffer → OrdersStay → LegalIsUnrefused → LongerListsKeepWhatIsKnown → TooManyClaimsRefuseLists
refuse differ orders unrefused longer m root seed level choices s has many more t legal =
    let whole : HasRead (read m root seed level (choices ++ more)) t = subst (λ a. HasRead a t) (sym legal.reads) refl in
    let onward = longer m root seed level choices more s t has whole in
    let stay = orders m root seed level choices more s t has legal.reads in
    let free = unrefused m root t legal.legal in
    let numbers = all_numbered s t stay free differ many.kept.size many.claims (IsClaimOn m s many.pool) (numbered m s t onward root legal.legal many.pool many.kept many.is) many.on_pool in
    let short = few s t stay free differ many.kept.size many.claims numbers.0 numbers.1 many.rivals in
    let long = many.many in
    omega (arith, short, long)
