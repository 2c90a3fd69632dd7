-- Counting and finding below a number, and least elements.
use Rattle.std.proofs.Common.{◌≡◌, ◌⊎◌, ℕ, zero, suc, ◌+◌, ◌<◌, ◌≤◌, List, [], ◌∷◌, length, get_or, refl, subst, inl, inr, ⊎_elim, arith}
use Rattle.std.specs.Prelude.{Contains}
use Rattle.std.proofs.lemmas.Bool.{cases_eq}
use Rattle.pst_programs.proofs.Elements.{none_in, cons_cases, cons_first, cons_rest}

abbrev pub Decided : (ℕ → Type 0) → Type 0
Decided P = (x : ℕ) → P x ⊎ (P x → ⊥)

abbrev pub one : {A : Type 0} → A ⊎ (A → ⊥) → ℕ
one (inl a) = 1
one (inr n) = 0

abbrev pub count : (P : ℕ → Type 0) → Decided P → ℕ → ℕ
count P d zero = 0
count P d (suc n) = one (d n) + count P d n

one_le : {A B : Type 0} (p : A ⊎ (A → ⊥)) (q : B ⊎ (B → ⊥)) → (A → B) → one p ≤ one q
one_le (inl a) (inl b) f = omega arith
one_le (inl a) (inr n) f = absurd (n (f a))
one_le (inr m) q f = omega arith

one_lt : {A B : Type 0} (p : A ⊎ (A → ⊥)) (q : B ⊎ (B → ⊥)) → (A → ⊥) → B → one p < one q
one_lt (inl a) q n b = absurd (n a)
one_lt (inr m) (inl b') n b = omega arith
one_lt (inr m) (inr k) n b = absurd (k b)

pub count_le : (P Q : ℕ → Type 0) (d : Decided P) (e : Decided Q) → ((x : ℕ) → P x → Q x) → (n : ℕ) → count P d n ≤ count Q e n
count_le P Q d e f zero = omega arith
count_le P Q d e f (suc n) =
    let a = one_le (d n) (e n) (f n) in
    let b = count_le P Q d e f n in
    omega (arith, a, b)

pub count_lt : (P Q : ℕ → Type 0) (d : Decided P) (e : Decided Q) → ((x : ℕ) → P x → Q x) → (n z : ℕ) → z < n → (P z → ⊥) → Q z → count P d n < count Q e n
count_lt P Q d e f zero z l p q = absurd (omega (arith, l))
count_lt P Q d e f (suc n) z l p q =
    ⊎_elim
    (λ k. let a = one_lt (d n) (e n) (subst (λ v. P v → ⊥) k p) (subst (λ v. Q v) k q) in let b = count_le P Q d e f n in omega (arith, a, b))
    (λ k. let a = one_le (d n) (e n) (f n) in let m : z < n = omega (arith, l, k) in let b = count_lt P Q d e f n z m p q in omega (arith, a, b))
    (cases_eq z n)

pub find : (P : ℕ → Type 0) → Decided P → (n : ℕ) → ((x : ℕ) × (x < n) × P x) ⊎ ((x : ℕ) → x < n → P x → ⊥)
find P d zero = inr (λ x l p. absurd (omega (arith, l)))
find P d (suc n) =
    ⊎_elim (λ p. inl (n, omega arith, p))
    (λ k. ⊎_elim (λ r. let l : r.0 < n = r.1 in inl (r.0, omega (arith, l), r.2))
    (λ f. inr (λ x l p. ⊎_elim (λ e. k (subst (λ v. P v) e p)) (λ ne. f x (omega (arith, l, ne)) p) (cases_eq x n))) (find P d n))
    (d n)

-- an element below n of which no other is before it
module _ (R : ℕ → ℕ → Type 0) (dR : (a b : ℕ) → R a b ⊎ (R a b → ⊥)) (along : (a b c : ℕ) → R a b → R b c → R a c) (never : (a : ℕ) → R a a → ⊥) (U : ℕ → Type 0) (dU : Decided U) (n : ℕ) where
  both : (x : ℕ) → Decided (λ y. R y x × U y)
  both x y = ⊎_elim (λ r. ⊎_elim (λ u. inl (r, u)) (λ k. inr (λ p. k p.1)) (dU y)) (λ k. inr (λ p. k p.0)) (dR y x)

  least_from : (fuel x : ℕ) → x < n → U x → count (λ y. R y x) (λ y. dR y x) n ≤ fuel → (m : ℕ) × (m < n) × U m × ((y : ℕ) → y < n → U y → R y m → ⊥)
  least_from zero x l u c =
      ⊎_elim
      (λ f. let k = count_lt (λ y. R y f.0) (λ y. R y x) (λ y. dR y f.0) (λ y. dR y x) (λ y r. along y f.0 x r f.2.0) n f.0 f.1 (never f.0) f.2.0 in absurd (omega (arith, k, c)))
      (λ f. (x, l, u, λ y m v r. f y m (r, v))) (find (λ y. R y x × U y) (both x) n)
  least_from (suc fuel) x l u c =
      ⊎_elim
      (λ f. let k = count_lt (λ y. R y f.0) (λ y. R y x) (λ y. dR y f.0) (λ y. dR y x) (λ y r. along y f.0 x r f.2.0) n f.0 f.1 (never f.0) f.2.0 in
      least_from fuel f.0 f.1 f.2.1 (omega (arith, k, c)))
      (λ f. (x, l, u, λ y m v r. f y m (r, v))) (find (λ y. R y x × U y) (both x) n)

  pub least : (x : ℕ) → x < n → U x → (m : ℕ) × (m < n) × U m × ((y : ℕ) → y < n → U y → R y m → ⊥)
  least x l u = least_from (count (λ y. R y x) (λ y. dR y x) n) x l u (omega arith)

-- so many numbers, from a
abbrev pub numbers : ℕ → ℕ → List ℕ
numbers a zero = []
numbers a (suc k) = a ∷ numbers (suc a) k

pub length-numbers : (a k : ℕ) → length (numbers a k) ≡ k
length-numbers a zero = refl
length-numbers a (suc k) = let e = length-numbers (suc a) k in omega (arith, e)

pub numbers-at : (a k i : ℕ) → i < k → get_or (numbers a k) i 0 ≡ a + i
numbers-at a zero i l = absurd (omega (arith, l))
numbers-at a (suc k) zero l = omega arith
numbers-at a (suc k) (suc i) l = let e = numbers-at (suc a) k i (omega (arith, l)) in omega (arith, e)

pub numbers_below : (a k x : ℕ) → Contains (numbers a k) x → x < a + k
numbers_below a zero x h = absurd (none_in x h)
numbers_below a (suc k) x h = ⊎_elim (λ e. omega (arith, e)) (λ q. let l = numbers_below (suc a) k x q in omega (arith, l)) (cons_cases a x (numbers (suc a) k) h)

pub in_numbers : (a k x : ℕ) → a ≤ x → x < a + k → Contains (numbers a k) x
in_numbers a zero x l m = absurd (omega (arith, l, m))
in_numbers a (suc k) x l m =
    ⊎_elim (λ e. subst (λ v. Contains (a ∷ numbers (suc a) k) v) e (cons_first a (numbers (suc a) k)))
    (λ n. cons_rest a x (numbers (suc a) k) (in_numbers (suc a) k x (omega (arith, l, n)) (omega (arith, m)))) (cases_eq a x)
