-- Which places are among those of a list.
use Rattle.std.proofs.Common.{◌≡◌, ◌⊎◌, ℕ, zero, suc, ◌+◌, ◌<◌, List, [], ◌∷◌, ◌++◌, map, true, refl, sym, ap, subst, inl, inr, ⊎_elim, arith}
use Rattle.std.specs.Prelude.{Contains}
use Rattle.pst_search_loop.specs.declared.conflict.Conflict.{Conflict}
use Rattle.pst_search_loop.specs.Conflicts.{IsAmong}
use Rattle.pst_search_places.specs.Laws.{IsLast, IsOfPlaces}

among_front : (xs ys : List ℕ) (p : ℕ) → IsAmong xs p → IsAmong (xs ++ ys) p
among_front [] ys p h = absurd h
among_front (x ∷ xs) ys p h = ⊎_elim (λ e. inl e) (λ n. inr (among_front xs ys p n)) h

among_behind : (xs ys : List ℕ) (p : ℕ) → IsAmong ys p → IsAmong (xs ++ ys) p
among_behind [] ys p h = h
among_behind (x ∷ xs) ys p h = inr (among_behind xs ys p h)

among_either : (xs ys : List ℕ) (p : ℕ) → IsAmong (xs ++ ys) p → IsAmong xs p ⊎ IsAmong ys p
among_either [] ys p h = inr h
among_either (x ∷ xs) ys p h = ⊎_elim (λ e. inl (inl e)) (λ n. ⊎_elim (λ m. inl (inr m)) (λ m. inr m) (among_either xs ys p n)) h

among_moved : (front : ℕ) (places : List ℕ) (i : ℕ) → Contains places i → IsAmong (map (λ j. front + j) places) (front + i)
among_moved front [] i (k, l, e) = let bad : ⊥ = omega (arith, l) in absurd bad
among_moved front (x ∷ xs) i (zero, l, e) = inl (ap (λ j. front + j) (sym e))
among_moved front (x ∷ xs) i (suc k, l, e) = inr (among_moved front xs i (k, omega (arith, l), e))

moved_among : (front : ℕ) (places : List ℕ) (p : ℕ) → IsAmong (map (λ j. front + j) places) p → (i : ℕ) × Contains places i × (p ≡ front + i)
moved_among front [] p h = absurd h
moved_among front (x ∷ xs) p (inl e) = (x, (0, omega arith, refl), e)
moved_among front (x ∷ xs) p (inr h) =
    let r = moved_among front xs p h in
    let c = r.1 in
    let l = c.1 in
    (r.0, (suc c.0, omega (arith, l), c.2), r.2)

pub no_place : (places : List ℕ) (front : ℕ) → places ≡ [] → front ≡ 0 → IsLast places front
no_place places front none zero_is = (has, within)
  where
    has : (p : ℕ) → p + 1 ≡ front → IsAmong places p
    has p e = let bad : ⊥ = omega (arith, e, zero_is) in absurd bad

    within : (p : ℕ) → IsAmong places p → p < front
    within p h = let bad : ⊥ = subst (λ xs. IsAmong xs p) none h in absurd bad

pub one_place : (places : List ℕ) (front place : ℕ) → places ≡ place ∷ [] → place + 1 ≡ front → IsLast places front
one_place places front place one is = (has, within)
  where
    has : (p : ℕ) → p + 1 ≡ front → IsAmong places p
    has p e = let same : p ≡ place = omega (arith, e, is) in subst (λ xs. IsAmong xs p) (sym one) (inl same)

    within : (p : ℕ) → IsAmong places p → p < front
    within p h = ⊎_elim (λ (e : p ≡ place). omega (arith, e, is)) (λ n. absurd n) (subst (λ xs. IsAmong xs p) one h)

pub of_named : (c : Conflict) (front : ℕ) (first named places : List ℕ) → c.below ≡ 0 → c.on_level ≡ true → c.places.items ≡ named → IsLast first front → named ≡ first ++ map (λ i. front + i) places → IsOfPlaces c front places
of_named c front first named places below level own last is = record {
  last = λ p e. inr (listed p (among_front first (map (λ i. front + i) places) p (last.0 p e)));
  named = λ i there. inr (listed (front + i) (among_behind first (map (λ j. front + j) places) (front + i) (among_moved front places i there)));
  within = λ p has. ⊎_elim (λ (l : p < c.below). let bad : ⊥ = omega (arith, l, below) in absurd bad)
      (λ (h : IsAmong c.places.items p).
      ⊎_elim (λ f. inl (last.1 p f)) (λ m. inr (moved_among front places p m))
      (among_either first (map (λ i. front + i) places) p (subst (λ xs. IsAmong xs p) is (subst (λ xs. IsAmong xs p) own h))))
      has;
  on_level = level;
}
  where
    listed : (p : ℕ) → IsAmong (first ++ map (λ i. front + i) places) p → IsAmong c.places.items p
    listed p h = subst (λ xs. IsAmong xs p) (sym own) (subst (λ xs. IsAmong xs p) (sym is) h)
