-- Places that are added to others.
use Rattle.std.proofs.Common.{◌≡◌, inl, inr, ⊎_elim, ℕ, ◌+◌, ◌<◌, ◌≤◌, List, [], ◌∷◌, ◌++◌, length, take, get_or, sym, subst, arith}
use Rattle.std.specs.Prelude.{Contains}
use Rattle.std.proofs.lemmas.List.{take_more, take_all}
use Rattle.std.proofs.lemmas.List.Elements.{Contains-get_or, Contains-append_left, Contains-append_cases, Contains-push, Contains-push_cases}
use Rattle.pst_fitting.specs.Places.{AreAdded}

none_there : (k : ℕ) → Contains [] k → ⊥
none_there k (j, small, at) = omega arith

only_one : (x k : ℕ) → Contains (x ∷ []) k → x ≡ k
only_one x k c = ⊎_elim (λ h. absurd (none_there k h)) (λ h. h) (Contains-push_cases [] x k c)

pub contains_at : (xs : List ℕ) (i x : ℕ) → i < length xs → get_or xs i 0 ≡ x → Contains xs x
contains_at xs i x below is = subst (Contains xs) is (Contains-get_or xs i 0 below)

-- ---- one place

pub not_below : (x n : ℕ) (xs : List ℕ) → n ≤ x → AreAdded (x ∷ []) n xs xs
not_below x n xs past = record { kept = λ k c. c; added = λ k c l. let e : x ≡ k = only_one x k c in absurd (omega (arith, e, l, past)); only = λ k c. inl c }

pub there_already : (x n : ℕ) (xs : List ℕ) → Contains xs x → AreAdded (x ∷ []) n xs xs
there_already x n xs there = record { kept = λ k c. c; added = λ k c l. subst (Contains xs) (only_one x k c) there; only = λ k c. inl c }

pub pushed : (x n : ℕ) (xs ys : List ℕ) → x < n → ys ≡ xs ++ x ∷ [] → AreAdded (x ∷ []) n xs ys
pushed x n xs ys small is = record {
  kept = λ k c. subst (λ zs. Contains zs k) (sym is) (Contains-append_left xs (x ∷ []) k c);
  added = λ k c l. subst (λ zs. Contains zs k) (sym is) (subst (Contains (xs ++ x ∷ [])) (only_one x k c) (Contains-push xs x));
  only = λ k c. ⊎_elim (λ h. inl h) (λ (e : x ≡ k). inr (omega (arith, e, small))) (Contains-push_cases xs x k (subst (λ zs. Contains zs k) is c));
}

-- ---- one after another

pub none_added : (ps : List ℕ) (n : ℕ) (xs : List ℕ) → AreAdded (take 0 ps) n xs xs
none_added ps n xs = record { kept = λ k c. c; added = λ k c l. absurd (none_there k c); only = λ k c. inl c }

pub added_then : (ps : List ℕ) (i n : ℕ) (xs ys zs : List ℕ) → i < length ps → AreAdded (take i ps) n xs ys → AreAdded (get_or ps i 0 ∷ []) n ys zs → AreAdded (take (i + 1) ps) n xs zs
added_then ps i n xs ys zs below first second = record {
  kept = λ k c. second.kept k (first.kept k c);
  added = λ k c l. ⊎_elim (λ h. second.kept k (first.added k h l)) (λ h. second.added k h l) (Contains-append_cases (take i ps) (get_or ps i 0 ∷ []) k (subst (λ w. Contains w k) (take_more ps i 0 below) c));
  only = λ k c. ⊎_elim (λ h. first.only k h) (λ h. inr h) (second.only k c);
}

pub all_added : (ps : List ℕ) (i n : ℕ) (xs ys : List ℕ) → length ps ≤ i → AreAdded (take i ps) n xs ys → AreAdded ps n xs ys
all_added ps i n xs ys end h = subst (λ w. AreAdded w n xs ys) (take_all i ps end) h
