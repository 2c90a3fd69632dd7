-- Sets of claims of which each two are rivals.
use Rattle.std.proofs.Common.{◌≡◌, ◌≢◌, ◌⊎◌, ℕ, zero, suc, ◌+◌, ◌<◌, ◌≤◌, List, [], ◌∷◌, ◌++◌, length, get_or, All, Bool, true, false, nat_eq, refl, ◌∙◌, sym, subst, inl, inr, ⊎_elim, arith, length-append}
use Rattle.std.proofs.lemmas.Bool.{false≢true, eqb-true, eq-eqb}
use Rattle.std.proofs.lemmas.List.Elements.{All-append, All-nil, All-cons}
use Rattle.pst_scen.specs.declared.scenario.Scenario.{Scenario}
use Rattle.pst_claim_rivals.specs.declared.claims.OpenClaim.{OpenClaim}
use Rattle.pst_claim_rivals.specs.Rivals.{AreRivals}
use Rattle.pst_claim_counts.specs.declared.needs.Need.{Need}
use Rattle.pst_claim_counts.specs.Counts.{AreAllRivals}
use Rattle.pst_claim_counts.specs.Needs.{AreNeeded, IsNeed, no_need, IsNeedOf, AreNeeds}

pub all_head : {A : Type 0} (P : A → Type 0) (x : A) (xs : List A) → All P (x ∷ xs) → P x
all_head P x xs all = all zero x (omega arith)

pub all_tail : {A : Type 0} (P : A → Type 0) (x : A) (xs : List A) → All P (x ∷ xs) → All P xs
all_tail P x xs all = λ k d l. all (suc k) d (omega (arith, l))

pub all_weaker : {A : Type 0} (P Q : A → Type 0) (xs : List A) → ((x : A) → P x → Q x) → All P xs → All Q xs
all_weaker P Q xs weaker all = λ k d l. weaker _ (all k d l)

module _ (s : Scenario) where
  join_rivals : (xs ys : List OpenClaim) → AreAllRivals s xs → AreAllRivals s ys → All (λ x. All (AreRivals s x) ys) xs → AreAllRivals s (xs ++ ys)
  join_rivals [] ys one other cross = other
  join_rivals (x ∷ xs) ys one other cross =
      (All-append (AreRivals s x) xs ys one.0 (all_head (λ z. All (AreRivals s z) ys) x xs cross), join_rivals xs ys one.1 other (all_tail (λ z. All (AreRivals s z) ys) x xs cross))

  module _ (P Q W : OpenClaim → Type 0) (left : (x : OpenClaim) → P x → W x) (right : (x : OpenClaim) → Q x → W x) where
    module _ (cross : (x y : OpenClaim) → P x → Q y → (x.lock ≡ true) ⊎ (y.lock ≡ true) → AreRivals s x y) where
      joined_set : (l r alone : Bool) (m n count : ℕ) → AreNeeded s P l m → AreNeeded s Q r n → (l ≡ true) ⊎ (r ≡ true) → (alone ≡ true → (l ≡ true) × (r ≡ true)) → count ≤ m + n → AreNeeded s W alone count
      joined_set l r alone m n count one other locked both few = record {
        claims = one.claims ++ other.claims;
        each = All-append W one.claims other.claims (all_weaker P W one.claims left one.each) (all_weaker Q W other.claims right other.each);
        rivals = join_rivals one.claims other.claims one.rivals other.rivals (crossed locked);
        locks = λ e. let h = both e in All-append (λ (x : OpenClaim). x.lock ≡ true) one.claims other.claims (one.locks h.0) (other.locks h.1);
        many = let a = one.many in let b = other.many in let long = length-append one.claims other.claims in omega (arith, a, b, few, long);
      }
        where
          crossed : (l ≡ true) ⊎ (r ≡ true) → All (λ x. All (AreRivals s x) other.claims) one.claims
          crossed (inl e) = λ k d h. λ j f g. cross _ _ (one.each k d h) (other.each j f g) (inl (one.locks e k d h))
          crossed (inr e) = λ k d h. λ j f g. cross _ _ (one.each k d h) (other.each j f g) (inr (other.locks e j f g))

      pub joined_need : (one other need : Need) → IsNeed s P one → IsNeed s Q other → need.locks ≤ one.locks + other.locks → (need.all ≤ one.locks + other.all) ⊎ (need.all ≤ one.all + other.locks) → IsNeed s W need
      joined_need one other need a b few all = record {
        locks = joined_set true true true one.locks other.locks need.locks a.locks b.locks (inl refl) (λ e. (refl, refl)) few;
        all = ⊎_elim
            (λ h. joined_set true false false one.locks other.all need.all a.locks b.all (inl refl) (λ e. absurd (false≢true e)) h)
            (λ h. joined_set false true false one.all other.locks need.all a.all b.locks (inr refl) (λ e. absurd (false≢true e)) h)
            all;
      }

    taken : (alone : Bool) (m n count : ℕ) → AreNeeded s P alone m → AreNeeded s Q alone n → (count ≡ m) ⊎ (count ≡ n) → AreNeeded s W alone count
    taken alone m n count one other (inl e) = record { claims = one.claims; each = all_weaker P W one.claims left one.each; rivals = one.rivals; locks = one.locks; many = let a = one.many in omega (arith, a, e) }
    taken alone m n count one other (inr e) = record { claims = other.claims; each = all_weaker Q W other.claims right other.each; rivals = other.rivals; locks = other.locks; many = let b = other.many in omega (arith, b, e) }

    pub greater_need : (one other need : Need) → IsNeed s P one → IsNeed s Q other → (need.locks ≡ one.locks) ⊎ (need.locks ≡ other.locks) → (need.all ≡ one.all) ⊎ (need.all ≡ other.all) → IsNeed s W need
    greater_need one other need a b locks all = record { locks = taken true one.locks other.locks need.locks a.locks b.locks locks; all = taken false one.all other.all need.all a.all b.all all }

  pub weaker_set : (P W : OpenClaim → Type 0) (alone : Bool) (count : ℕ) → ((x : OpenClaim) → P x → W x) → AreNeeded s P alone count → AreNeeded s W alone count
  weaker_set P W alone count weaker set = record { claims = set.claims; each = all_weaker P W set.claims weaker set.each; rivals = set.rivals; locks = set.locks; many = set.many }

  pub weaker_need : (P W : OpenClaim → Type 0) (need : Need) → ((x : OpenClaim) → P x → W x) → IsNeed s P need → IsNeed s W need
  weaker_need P W need weaker is = record { locks = weaker_set P W true need.locks weaker is.locks; all = weaker_set P W false need.all weaker is.all }

  empty_set : (P : OpenClaim → Type 0) (alone : Bool) → AreNeeded s P alone 0
  empty_set P alone = record { claims = []; each = All-nil P; rivals = tt; locks = λ e. All-nil (λ (x : OpenClaim). x.lock ≡ true); many = omega arith }

  pub empty_need : (P : OpenClaim → Type 0) → IsNeed s P no_need
  empty_need P = record { locks = empty_set P true; all = empty_set P false }

  single : (P : OpenClaim → Type 0) (x : OpenClaim) (alone : Bool) → P x → (alone ≡ true → x.lock ≡ true) → AreNeeded s P alone 1
  single P x alone has lock = record {
    claims = x ∷ [];
    each = All-cons P x [] has (All-nil P);
    rivals = (All-nil (AreRivals s x), tt);
    locks = λ e. All-cons (λ (y : OpenClaim). y.lock ≡ true) x [] (lock e) (All-nil (λ (y : OpenClaim). y.lock ≡ true));
    many = omega arith;
  }

  by_lock : (P : OpenClaim → Type 0) (x : OpenClaim) (need : Need) (b : Bool) → x.lock ≡ b → P x → IsNeedOf b need → IsNeed s P need
  by_lock P x need true e has of = subst (IsNeed s P) (sym of) (record { locks = single P x true has (λ z. e); all = single P x false has (λ z. absurd (false≢true z)) })
  by_lock P x need false e has of = subst (IsNeed s P) (sym of) (record { locks = empty_set P true; all = single P x false has (λ z. absurd (false≢true z)) })

  pub one_need : (P : OpenClaim → Type 0) (x : OpenClaim) (need : Need) → P x → IsNeedOf x.lock need → IsNeed s P need
  one_need P x need has of = by_lock P x need x.lock refl has of

  -- one need of a list is changed
  pub updated : (P W : ℕ → OpenClaim → Type 0) (old new : List Need) (slot : ℕ) (need : Need) → length new ≡ length old → get_or new slot no_need ≡ need
      → ((k : ℕ) → k ≢ slot → get_or new k no_need ≡ get_or old k no_need) → ((n : ℕ) (x : OpenClaim) → P n x → W n x) → IsNeed s (W slot) need → AreNeeds s P old → AreNeeds s W new
  updated P W old new slot need many at others weaker is all = λ n l. by n l (nat_eq n slot) refl
    where
      by : (n : ℕ) → n < length new → (b : Bool) → nat_eq n slot ≡ b → IsNeed s (W n) (get_or new n no_need)
      by n l true e = subst (λ k. IsNeed s (W k) (get_or new k no_need)) (sym (eqb-true n slot e)) (subst (IsNeed s (W slot)) (sym at) is)
      by n l false e =
          let off : n ≢ slot = λ same. false≢true (sym e ∙ eq-eqb n slot same) in
          subst (IsNeed s (W n)) (sym (others n off)) (weaker_need (P n) (W n) (get_or old n no_need) (weaker n) (all n (omega (arith, l, many))))
