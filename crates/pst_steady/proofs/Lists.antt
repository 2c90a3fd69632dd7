-- Elements of lists by their numbers.
use Rattle.std.proofs.Common.{◌≡◌, ◌⊎◌, inl, inr, ℕ, zero, suc, ◌+◌, ◌<◌, ◌≤◌, List, [], ◌∷◌, ◌++◌, length, set, map, Option, refl, sym, ap, subst, ◌∙◌, arith}
use Rattle.std.specs.Prelude.{Some, None, slice_get}

pub some_is : {X : Type 0} {x y : X} → Some x ≡ Some y → x ≡ y
some_is {X} {x} {y} e = cc

pub no_some : {X : Type 0} {x : X} → None ≡ Some x → ⊥
no_some {X} {x} e = cc

pub there_is : {X : Type 0} (xs : List X) (i : ℕ) → i < length xs → (x : X) × (slice_get xs i ≡ Some x)
there_is [] i le = absurd (omega (arith, le))
there_is (x ∷ xs) zero le = (x, refl)
there_is (x ∷ xs) (suc i) le = there_is xs i (omega (arith, le))

pub within : {X : Type 0} (xs : List X) (i : ℕ) (x : X) → slice_get xs i ≡ Some x → i < length xs
within [] i x e = absurd (no_some e)
within (y ∷ xs) zero x e = omega arith
within (y ∷ xs) (suc i) x e = omega (arith, within xs i x e)

pub nat_cases : (a b : ℕ) → (a < b) ⊎ (b ≤ a)
nat_cases zero zero = inr (omega arith)
nat_cases zero (suc b) = inl (omega arith)
nat_cases (suc a) zero = inr (omega arith)
nat_cases (suc a) (suc b) = elim (nat_cases a b) [ inl l ↦ inl (omega (arith, l)) | inr l ↦ inr (omega (arith, l)) ]

pub below_or : (k n : ℕ) → k < n + 1 → (k < n) ⊎ (k ≡ n)
below_or k n l = elim (nat_cases k n) [ inl b ↦ inl b | inr e ↦ inr (omega (arith, e, l)) ]

pub same_or : (i k : ℕ) → (i ≡ k) ⊎ (i ≡ k → ⊥)
same_or i k = elim (nat_cases i k) [ inl l ↦ inr (λ e. omega (arith, e, l)) | inr l ↦ elim (nat_cases k i) [ inl m ↦ inr (λ e. omega (arith, e, m)) | inr m ↦ inl (omega (arith, l, m)) ] ]

-- an element of a longer list is one of the shorter, or the last
pub push_cases : {X : Type 0} (xs : List X) (y : X) (i : ℕ) (x : X) → slice_get (xs ++ y ∷ []) i ≡ Some x → (slice_get xs i ≡ Some x) ⊎ ((i ≡ length xs) × (y ≡ x))
push_cases [] y zero x e = inr (refl, some_is e)
push_cases [] y (suc i) x e = absurd (no_some e)
push_cases (z ∷ xs) y zero x e = inl e
push_cases (z ∷ xs) y (suc i) x e = elim (push_cases xs y i x e) [ inl a ↦ inl a | inr b ↦ inr (ap suc b.0, b.1) ]

pub push_keeps : {X : Type 0} (xs ys : List X) (i : ℕ) (x : X) → slice_get xs i ≡ Some x → slice_get (xs ++ ys) i ≡ Some x
push_keeps [] ys i x e = absurd (no_some e)
push_keeps (z ∷ xs) ys zero x e = e
push_keeps (z ∷ xs) ys (suc i) x e = push_keeps xs ys i x e

pub push_last : {X : Type 0} (xs : List X) (x : X) → slice_get (xs ++ x ∷ []) (length xs) ≡ Some x
push_last [] x = refl
push_last (z ∷ xs) x = push_last xs x

pub at_set : {X : Type 0} (xs : List X) (t : ℕ) (y : X) → t < length xs → slice_get (set xs t y) t ≡ Some y
at_set [] t y l = absurd (omega (arith, l))
at_set (x ∷ xs) zero y l = refl
at_set (x ∷ xs) (suc t) y l = at_set xs t y (omega (arith, l))

pub beside_set : {X : Type 0} (xs : List X) (t i : ℕ) (y : X) → (i ≡ t → ⊥) → slice_get (set xs t y) i ≡ slice_get xs i
beside_set [] t i y n = refl
beside_set (x ∷ xs) zero zero y n = absurd (n refl)
beside_set (x ∷ xs) zero (suc i) y n = refl
beside_set (x ∷ xs) (suc t) zero y n = refl
beside_set (x ∷ xs) (suc t) (suc i) y n = beside_set xs t i y (λ e. n (ap suc e))

pub push_length : {X : Type 0} (xs : List X) (x : X) → length (xs ++ x ∷ []) ≡ length xs + 1
push_length [] x = refl
push_length (y ∷ xs) x = omega (arith, push_length xs x)
