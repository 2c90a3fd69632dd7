-- Conflicts with more places.
use Rattle.std.proofs.Common.{◌≡◌, ◌⊎◌, ℕ, get_or, ◌+◌, ◌<◌, ◌≤◌, List, [], ◌∷◌, ◌++◌, take, length, refl, sym, ◌∙◌, subst, inl, inr, ⊎_elim, arith}
use Rattle.pst_search_loop.specs.declared.conflict.Conflict.{Conflict}
use Rattle.pst_search_loop.specs.Conflicts.{IsAmong, Has, AreAdded}
use Rattle.pst_search_loop.proofs.Among.{among_next, among_end, among_front, among_last}

-- one conflict with one more place
pub record IsPushed (c : Conflict) (place : ℕ) (r : Conflict) : Type 0 where
  pub below : r.below ≡ c.below
  pub places : r.places.items ≡ c.places.items ++ place ∷ []
  pub level : r.on_level ≡ c.on_level

pushed_own : (c r : Conflict) (place : ℕ) → IsPushed c place r → (p : ℕ) → Has c p → Has r p
pushed_own c r place e p h = ⊎_elim
    (λ (l : p < c.below). inl (subst (λ n. p < n) (sym e.below) l))
    (λ n. inr (subst (λ xs. IsAmong xs p) (sym e.places) (among_front c.places.items (place ∷ []) p n))) h

pushed_cases : (c r : Conflict) (place : ℕ) → IsPushed c place r → (p : ℕ) → Has r p → Has c p ⊎ (p ≡ place)
pushed_cases c r place e p h = ⊎_elim
    (λ (l : p < r.below). inl (inl (subst (λ n. p < n) e.below l)))
    (λ n. ⊎_elim (λ m. inl (inr m)) (λ q. inr q) (among_end c.places.items place p (subst (λ xs. IsAmong xs p) e.places n))) h

pushed_last : (c r : Conflict) (place : ℕ) → IsPushed c place r → Has r place
pushed_last c r place e = inr (subst (λ xs. IsAmong xs place) (sym e.places) (among_last c.places.items place))

pub added_pushed : (c r : Conflict) (place at : ℕ) → place < at → IsPushed c place r → AreAdded c (place ∷ []) at r
added_pushed c r place at before e = record {
  own = pushed_own c r place e;
  added = λ p b n. ⊎_elim (λ (q : p ≡ place). subst (Has r) (sym q) (pushed_last c r place e)) (λ m. absurd m) n;
  within = λ p n. ⊎_elim (λ m. inr m) (λ (q : p ≡ place). inl (subst (λ x. x < at) (sym q) before)) (pushed_cases c r place e p n);
  level = sym e.level;
}

pub added_there : (c : Conflict) (place at : ℕ) → IsAmong c.places.items place → AreAdded c (place ∷ []) at c
added_there c place at there = record {
  own = λ p n. n;
  added = λ p b n. ⊎_elim (λ (q : p ≡ place). subst (Has c) (sym q) (inr there)) (λ m. absurd m) n;
  within = λ p n. inr n;
  level = refl;
}

pub added_behind : (c : Conflict) (place at : ℕ) → at ≤ place → AreAdded c (place ∷ []) at c
added_behind c place at behind = record {
  own = λ p n. n;
  added = λ p b n. ⊎_elim (λ (q : p ≡ place). let bad : ⊥ = omega (arith, q, b, behind) in absurd bad) (λ m. absurd m) n;
  within = λ p n. inr n;
  level = refl;
}

pub added_none : (c : Conflict) (at : ℕ) → AreAdded c [] at c
added_none c at = record { own = λ p n. n; added = λ p b n. absurd n; within = λ p n. inr n; level = refl }

-- the next one too
pub added_then : (a c r : Conflict) (places : List ℕ) (i at : ℕ) → i < length places → AreAdded a (take i places) at c → AreAdded c (get_or places i 0 ∷ []) at r → AreAdded a (take (i + 1) places) at r
added_then a c r places i at l h e = record {
  own = λ p n. e.own p (h.own p n);
  added = λ p b n. ⊎_elim (λ m. e.own p (h.added p b m)) (λ q. e.added p b (inl q)) (among_next places i p l n);
  within = λ p n. ⊎_elim (λ m. inl m) (λ m. h.within p m) (e.within p n);
  level = h.level ∙ e.level;
}
