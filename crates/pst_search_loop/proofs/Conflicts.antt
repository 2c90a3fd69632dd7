-- Conflicts of a list, of the list without its last choice, and of the options of a place.
use Rattle.std.proofs.Common.{◌≡◌, ℕ, ◌+◌, ◌<◌, ◌≤◌, List, [], ◌∷◌, ◌++◌, take, length, true, refl, sym, ap, ◌∙◌, subst, ⊎_elim, arith}
use Rattle.std.proofs.lemmas.Bool.{cases_lt}
use Rattle.pst_model.specs.ModelTree.{ModelTree}
use Rattle.pst_search_loop.specs.declared.conflict.Conflict.{Conflict}
use Rattle.pst_search_loop.specs.Conflicts.{Has, IsJoined}
use Rattle.pst_search_loop.specs.Kept.{Facts, Kept, at_list, with_choice, Agrees, IsWithin, IsConflict, Rests, Excludes, SameKept}
use Rattle.pst_search_loop.specs.Stack.{ArePassed}
use Rattle.pst_search_loop.proofs.Lists.{take_front, take_next, length_next}

-- ---- the same walker

pub same_self : (k : Kept) → SameKept k k
same_self k = record { model = refl; root = refl; seed = refl; facts = refl; level = refl }

pub same_list : (k : Kept) (xs : List ℕ) → SameKept k (at_list k xs)
same_list k xs = record { model = refl; root = refl; seed = refl; facts = refl; level = refl }

pub same_then : (k l n : Kept) → SameKept k l → SameKept l n → SameKept k n
same_then k l n a b = record { model = b.model ∙ a.model; root = b.root ∙ a.root; seed = b.seed ∙ a.seed; facts = b.facts ∙ a.facts; level = b.level ∙ a.level }

pub same_turned : (k l : Kept) → SameKept k l → SameKept l k
same_turned k l a = record { model = sym a.model; root = sym a.root; seed = sym a.seed; facts = sym a.facts; level = sym a.level }

pub same_on : (k l : Kept) (d : ℕ) → l ≡ with_choice k d → SameKept k l
same_on k l d e = subst (SameKept k) (sym e) (same_list k (k.choices ++ d ∷ []))

pub same_back : (k l : Kept) (d : ℕ) → k ≡ with_choice l d → SameKept k l
same_back k l d e = same_turned l k (same_on l k d e)

abbrev kept_of : ModelTree → ℕ → ℕ → Facts → ℕ → List ℕ → Kept
kept_of m r s f l c = record { model = m; root = r; seed = s; facts = f; level = l; choices = c }

pub at_same : (k l : Kept) (xs : List ℕ) → SameKept k l → at_list k xs ≡ at_list l xs
at_same k l xs same =
    ap (λ m. kept_of m k.root k.seed k.facts k.level xs) (sym same.model)
    ∙ ap (λ r. kept_of l.model r k.seed k.facts k.level xs) (sym same.root)
    ∙ ap (λ s. kept_of l.model l.root s k.facts k.level xs) (sym same.seed)
    ∙ ap (λ f. kept_of l.model l.root l.seed f k.level xs) (sym same.facts)
    ∙ ap (λ v. kept_of l.model l.root l.seed l.facts v xs) (sym same.level)

pub at_own : (k : Kept) (xs : List ℕ) → k.choices ≡ xs → at_list k xs ≡ k
at_own k xs e = sym (ap (at_list k) e)

-- ---- one choice less

agrees_longer : (k : Kept) (xs : List ℕ) (d : ℕ) (c : Conflict) → ((p : ℕ) → Has c p → p < length xs) → (level : ℕ) (other : List ℕ) → Agrees (at_list k xs) c level other → Agrees (at_list k (xs ++ d ∷ [])) c level other
agrees_longer k xs d c before level other a = record {
  same_level = a.same_level;
  facts = λ p h. subst (λ ys. k.facts k.level ys level other ≡ true) (sym (take_front xs (d ∷ []) p (before p h))) (a.facts p h);
}

-- a conflict that doesn't name the last place
pub shorter : (k : Kept) (xs : List ℕ) (d : ℕ) (c : Conflict) → ((p : ℕ) → Has c p → p < length xs) → IsConflict (at_list k (xs ++ d ∷ [])) c → IsConflict (at_list k xs) c
shorter k xs d c before is = record {
  within = before;
  none = λ level other a sought. is.none level other (agrees_longer k xs d c before level other a) sought;
}

-- ---- joined reasons

agrees_own : (k : Kept) (a b r : Conflict) (xs : List ℕ) → IsJoined a b (length xs) r → IsWithin (at_list k xs) a → (level : ℕ) (other : List ℕ) → Agrees (at_list k xs) r level other → Agrees (at_list k xs) a level other
agrees_own k a b r xs joined within level other agrees = record {
  same_level = λ e. agrees.same_level (joined.own_level e);
  facts = λ p h. agrees.facts p (joined.own p (within p h) h);
}

agrees_other : (k : Kept) (a b r : Conflict) (xs : List ℕ) → IsJoined a b (length xs) r → IsWithin (at_list k xs) b → (level : ℕ) (other : List ℕ) → Agrees (at_list k xs) r level other → Agrees (at_list k xs) b level other
agrees_other k a b r xs joined within level other agrees = record {
  same_level = λ e. agrees.same_level (joined.other_level e);
  facts = λ p h. agrees.facts p (joined.other p (within p h) h);
}

-- with the last place: the other's facts, where what the last choice stands for holds too
agrees_last : (k : Kept) (a b r : Conflict) (xs : List ℕ) (d : ℕ) → IsJoined a b (length xs) r → IsWithin (at_list k (xs ++ d ∷ [])) b → (level : ℕ) (other : List ℕ) → Agrees (at_list k xs) r level other
    → k.facts k.level (xs ++ d ∷ []) level other ≡ true → Agrees (at_list k (xs ++ d ∷ [])) b level other
agrees_last k a b r xs d joined within level other agrees last = record {
  same_level = λ e. agrees.same_level (joined.other_level e);
  facts = λ p h. ⊎_elim
      (λ (l : p < length xs). subst (λ ys. k.facts k.level ys level other ≡ true) (sym (take_front xs (d ∷ []) p l)) (agrees.facts p (joined.other p l h)))
      (λ (l : length xs ≤ p).
      let w : p < length (xs ++ d ∷ []) = within p h in
      let n : length (xs ++ d ∷ []) ≡ length xs + 1 = length_next xs d in
      let e : length xs ≡ p = omega (arith, l, w, n) in
      subst (λ ys. k.facts k.level ys level other ≡ true) (sym (take_next xs d []) ∙ ap (λ q. take (q + 1) (xs ++ d ∷ [])) e) last)
      (cases_lt p (length xs));
}

within_joined : (k : Kept) (a b r : Conflict) (xs : List ℕ) → IsJoined a b (length xs) r → IsWithin (at_list k xs) a → IsWithin (at_list k xs) r
within_joined k a b r xs joined within p h = ⊎_elim (λ l. l) (λ n. within p n) (joined.within p h)

-- one more option is passed
pub one_more_passed : (k : Kept) (xs : List ℕ) (a b r : Conflict) (d : ℕ) → ArePassed (at_list k xs) a d → IsConflict (at_list k (xs ++ d ∷ [])) b → IsJoined a b (length xs) r → ArePassed (at_list k xs) r (d + 1)
one_more_passed k xs a b r d passed is joined = record {
  within = within_joined k a b r xs joined passed.within;
  each = λ e l. record {
    none = λ level other agrees holds sought. ⊎_elim
        (λ (m : e < d). (passed.each e m).none level other (agrees_own k a b r xs joined passed.within level other agrees) holds sought)
        (λ (m : d ≤ e).
        let q : e ≡ d = omega (arith, l, m) in
        is.none level other (agrees_last k a b r xs d joined is.within level other agrees (subst (λ x. k.facts k.level (xs ++ x ∷ []) level other ≡ true) q holds)) sought)
        (cases_lt e d);
  };
}

-- further options are passed that are skipped
pub skipped_passed : (k : Kept) (xs : List ℕ) (a b r : Conflict) (from to : ℕ) → ArePassed (at_list k xs) a from → IsWithin (at_list k xs) b → ((d : ℕ) → from ≤ d → d < to → Excludes (at_list k xs) b d) → IsJoined a b (length xs) r → ArePassed (at_list k xs) r to
skipped_passed k xs a b r from to passed inner each joined = record {
  within = within_joined k a b r xs joined passed.within;
  each = λ d l. record {
    none = λ level other agrees holds sought. ⊎_elim
        (λ (m : d < from). (passed.each d m).none level other (agrees_own k a b r xs joined passed.within level other agrees) holds sought)
        (λ (m : from ≤ d). (each d m l).none level other (agrees_other k a b r xs joined inner level other agrees) holds sought)
        (cases_lt d from);
  };
}

-- all options are passed
pub all_passed : (k : Kept) (xs : List ℕ) (a b r : Conflict) (n : ℕ) → ArePassed (at_list k xs) a n → Rests (at_list k xs) n b → IsJoined a b (length xs) r → IsConflict (at_list k xs) r
all_passed k xs a b r n passed rests joined = record {
  within = within_joined k a b r xs joined passed.within;
  none = λ level other agrees sought.
      let some = rests.some level other (agrees_other k a b r xs joined rests.within level other agrees) sought in
      (passed.each some.0 some.1).none level other (agrees_own k a b r xs joined passed.within level other agrees) some.2 sought;
}
