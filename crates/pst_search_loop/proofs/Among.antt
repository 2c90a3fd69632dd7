-- Which numbers are among those of a list.
use Rattle.std.proofs.Common.{◌≡◌, ◌⊎◌, ℕ, zero, suc, get_or, ◌+◌, ◌<◌, List, [], ◌∷◌, ◌++◌, take, length, refl, subst, inl, inr, ⊎_elim, arith}
use Rattle.pst_search_loop.specs.Conflicts.{IsAmong}

pub among_at : (xs : List ℕ) (i : ℕ) → i < length xs → IsAmong xs (get_or xs i 0)
among_at [] i l = let bad : ⊥ = omega (arith, l) in absurd bad
among_at (x ∷ xs) zero l = inl refl
among_at (x ∷ xs) (suc i) l = inr (among_at xs i (omega (arith, l)))

among_suc : (xs : List ℕ) (i p : ℕ) → i < length xs → IsAmong (take (suc i) xs) p → IsAmong (take i xs) p ⊎ (p ≡ get_or xs i 0)
among_suc [] i p l h = let bad : ⊥ = omega (arith, l) in absurd bad
among_suc (x ∷ xs) zero p l h = ⊎_elim (λ e. inr e) (λ n. absurd n) h
among_suc (x ∷ xs) (suc i) p l h =
    ⊎_elim (λ e. inl (inl e)) (λ n. ⊎_elim (λ m. inl (inr m)) (λ e. inr e) (among_suc xs i p (omega (arith, l)) n)) h

pub among_next : (xs : List ℕ) (i p : ℕ) → i < length xs → IsAmong (take (i + 1) xs) p → IsAmong (take i xs) p ⊎ (p ≡ get_or xs i 0)
among_next xs i p l h = let e : i + 1 ≡ suc i = omega arith in among_suc xs i p l (subst (λ n. IsAmong (take n xs) p) e h)

pub among_end : (xs : List ℕ) (y p : ℕ) → IsAmong (xs ++ y ∷ []) p → IsAmong xs p ⊎ (p ≡ y)
among_end [] y p h = ⊎_elim (λ e. inr e) (λ n. absurd n) h
among_end (x ∷ xs) y p h = ⊎_elim (λ e. inl (inl e)) (λ n. ⊎_elim (λ m. inl (inr m)) (λ e. inr e) (among_end xs y p n)) h

pub among_front : (xs ys : List ℕ) (p : ℕ) → IsAmong xs p → IsAmong (xs ++ ys) p
among_front [] ys p h = absurd h
among_front (x ∷ xs) ys p h = ⊎_elim (λ e. inl e) (λ n. inr (among_front xs ys p n)) h

pub among_last : (xs : List ℕ) (y : ℕ) → IsAmong (xs ++ y ∷ []) y
among_last [] y = inl refl
among_last (x ∷ xs) y = inr (among_last xs y)
