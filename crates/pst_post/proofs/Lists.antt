-- Lists read by place, lists with one element more, and tests of numbers.
use Rattle.std.proofs.Common.{◌≡◌, ◌≢◌, ◌⊎◌, ℕ, zero, suc, ◌<◌, List, [], ◌∷◌, ◌++◌, length, get_or, refl, sym, ap, ◌∙◌, subst, ⊎_elim, inl, inr, arith, eqb, Bool, true, false, eq-eqb, ne_eqb, length-append, append_assoc}
use mathlib.Core.Logic.{dite}
use mathlib.Core.Option.{some, some-ne-none, some-injective}
use mathlib.Core.List.{IsPrefix}
use native.Mathlib.Decide.{ℕ_discrete}
use lib.ListN.{get_elem?}

-- by cases, whether j is i
pub here_or_else : (P : ℕ → Type 0) (i j : ℕ) → P i → (j ≢ i → P j) → P j
here_or_else P i j here else = dite (ℕ_discrete j i) (λ e. subst P (sym e) here) else

-- by cases, whether the test passes
pub by_test : (F : Bool → Type 0) (n m : ℕ) → (n ≡ m → F true) → (n ≢ m → F false) → F (eqb n m)
by_test F n m same other = dite (ℕ_discrete n m) (λ e. subst F (sym (eq-eqb n m e)) (same e)) (λ ne. subst F (sym (ne_eqb n m ne)) (other ne))

module _ {A : Type 0} where
  pub inside : (l : List A) (i : ℕ) (a : A) → get_elem? l i ≡ some a → i < length l
  inside [] i a e = absurd (some-ne-none a (sym e))
  inside (x ∷ xs) zero a e = omega arith
  inside (x ∷ xs) (suc i) a e = let h = inside xs i a e in omega arith

  pub one_value : (l : List A) (i : ℕ) (a b : A) → get_elem? l i ≡ some a → get_elem? l i ≡ some b → a ≡ b
  one_value l i a b e f = some-injective a b (sym e ∙ f)

  pub get_or-there : (l : List A) (i : ℕ) (a d : A) → get_elem? l i ≡ some a → get_or l i d ≡ a
  get_or-there [] i a d e = absurd (some-ne-none a (sym e))
  get_or-there (x ∷ xs) zero a d e = some-injective x a e
  get_or-there (x ∷ xs) (suc i) a d e = get_or-there xs i a d e

  -- in a list with one element more: where it was, or at the end
  pub snoc_at : (l : List A) (a b : A) (j : ℕ) → get_elem? (l ++ a ∷ []) j ≡ some b → (get_elem? l j ≡ some b) ⊎ ((j ≡ length l) × (a ≡ b))
  snoc_at [] a b zero e = inr (refl, some-injective a b e)
  snoc_at [] a b (suc j) e = absurd (some-ne-none b (sym e))
  snoc_at (x ∷ xs) a b zero e = inl e
  snoc_at (x ∷ xs) a b (suc j) e = ⊎_elim (λ (t : get_elem? xs j ≡ some b). inl t) (λ (t : (j ≡ length xs) × (a ≡ b)). inr (ap suc t.0, t.1)) (snoc_at xs a b j e)

  -- a list is not itself with one element more
  pub no_longer : (l : List A) (a : A) → l ≡ l ++ a ∷ [] → ⊥
  no_longer l a e = let n : length l ≡ length (l ++ a ∷ []) = ap length e in omega (arith, length-append l (a ∷ []))

  pub IsPrefix-append : (l m n : List A) → IsPrefix l m → IsPrefix l (m ++ n)
  IsPrefix-append l m n p = (p.0 ++ n, sym (append_assoc l p.0 n) ∙ ap (λ z. z ++ n) p.1)
