-- Products and quotients of numbers between two ends lie between those of the ends.
use Rattle.std.proofs.Common.{◌≡◌, ◌⊎◌, ⊎_elim, inl, inr, ℕ, zero, suc, ◌*◌, ◌/◌, ◌≤◌, ℤ, pos, negsuc, neg_ℤ, ◌*ℤ◌, ◌≤ℤ◌, ◌<ℤ◌, int_div, List, [], ◌∷◌, arith, refl, sym, subst}
use Rattle.std.proofs.lemmas.Int.{ints}
use Rattle.std.proofs.Math.IntN.{*ℤ_comm}
use Rattle.std.proofs.Math.Nat.{mul-le-mul_right, mul-le-mul_left, le-div_iff_mul-le, div-mul-le_self}
use Rattle.pst_domain.proofs.CutLaws.{SomeBelow, SomeAbove, IsAmong}

-- w lies between u and v, in either order
abbrev pub IsBetween : ℤ → ℤ → ℤ → Type 0
IsBetween u v w = ((u ≤ℤ w) × (w ≤ℤ v)) ⊎ ((v ≤ℤ w) × (w ≤ℤ u))

one_below : (u v w : ℤ) → IsBetween u v w → (u ≤ℤ w) ⊎ (v ≤ℤ w)
one_below u v w (inl h) = inl h.0
one_below u v w (inr h) = inr h.0

one_above : (u v w : ℤ) → IsBetween u v w → (w ≤ℤ u) ⊎ (w ≤ℤ v)
one_above u v w (inl h) = inr h.1
one_above u v w (inr h) = inl h.1

-- the four results of ends
abbrev pub corners : (ℤ → ℤ → ℤ) → ℤ → ℤ → ℤ → ℤ → List ℤ
corners f a b c d = f a c ∷ f a d ∷ f b c ∷ f b d ∷ []

-- an operation that goes one way along each operand
module _ (f : ℤ → ℤ → ℤ) (a b c d x y : ℤ) where
  first_below : (f a y) ≤ℤ (f x y) → IsBetween (f a c) (f a d) (f a y) → SomeBelow (corners f a b c d) (f x y)
  first_below h k =
      ⊎_elim (λ l. inl (omega (arith, ints))) (λ l. inr (inl (omega (arith, ints)))) (one_below (f a c) (f a d) (f a y) k)

  second_below : (f b y) ≤ℤ (f x y) → IsBetween (f b c) (f b d) (f b y) → SomeBelow (corners f a b c d) (f x y)
  second_below h k =
      ⊎_elim (λ l. inr (inr (inl (omega (arith, ints))))) (λ l. inr (inr (inr (inl (omega (arith, ints)))))) (one_below (f b c) (f b d) (f b y) k)

  first_above : (f x y) ≤ℤ (f a y) → IsBetween (f a c) (f a d) (f a y) → SomeAbove (corners f a b c d) (f x y)
  first_above h k =
      ⊎_elim (λ l. inl (omega (arith, ints))) (λ l. inr (inl (omega (arith, ints)))) (one_above (f a c) (f a d) (f a y) k)

  second_above : (f x y) ≤ℤ (f b y) → IsBetween (f b c) (f b d) (f b y) → SomeAbove (corners f a b c d) (f x y)
  second_above h k =
      ⊎_elim (λ l. inr (inr (inl (omega (arith, ints))))) (λ l. inr (inr (inr (inl (omega (arith, ints)))))) (one_above (f b c) (f b d) (f b y) k)

  pub among_corners : IsBetween (f a y) (f b y) (f x y) → IsBetween (f a c) (f a d) (f a y) → IsBetween (f b c) (f b d) (f b y) → IsAmong (corners f a b c d) (f x y)
  among_corners (inl h) k l = (first_below h.0 k, second_above h.1 l)
  among_corners (inr h) k l = (second_below h.0 l, first_above h.1 k)

-- ---- products

neg_reverses : (m n : ℕ) → m ≤ n → neg_ℤ (pos n) ≤ℤ neg_ℤ (pos m)
neg_reverses m n h = omega (arith, ints)

neg_below : (m n : ℕ) → neg_ℤ (pos m) ≤ℤ pos n
neg_below m n = omega (arith, ints)

pos_order : (m n : ℕ) → m ≤ n → pos m ≤ℤ pos n
pos_order m n h = omega (arith, ints)

pos_of : (m n : ℕ) → pos m ≤ℤ pos n → m ≤ n
pos_of m n h = omega (arith, ints)

negsuc_of : (m n : ℕ) → negsuc m ≤ℤ negsuc n → suc n ≤ suc m
negsuc_of m n h = omega (arith, ints)

times_pos : (u v : ℤ) (n : ℕ) → u ≤ℤ v → (u *ℤ pos n) ≤ℤ (v *ℤ pos n)
times_pos (pos p) (pos q) n h = pos_order (p * n) (q * n) (mul-le-mul_right n (pos_of p q h))
times_pos (pos p) (negsuc q) n h = absurd h.le
times_pos (negsuc p) (pos q) n h = neg_below (suc p * n) (q * n)
times_pos (negsuc p) (negsuc q) n h = neg_reverses (suc q * n) (suc p * n) (mul-le-mul_right n (negsuc_of p q h))

times_negsuc : (u v : ℤ) (n : ℕ) → u ≤ℤ v → (v *ℤ negsuc n) ≤ℤ (u *ℤ negsuc n)
times_negsuc (pos p) (pos q) n h = neg_reverses (p * suc n) (q * suc n) (mul-le-mul_right (suc n) (pos_of p q h))
times_negsuc (pos p) (negsuc q) n h = absurd h.le
times_negsuc (negsuc p) (pos q) n h = neg_below (q * suc n) (suc p * suc n)
times_negsuc (negsuc p) (negsuc q) n h = pos_order (suc q * suc n) (suc p * suc n) (mul-le-mul_right (suc n) (negsuc_of p q h))

product_between : (a b x y : ℤ) → a ≤ℤ x → x ≤ℤ b → IsBetween (a *ℤ y) (b *ℤ y) (x *ℤ y)
product_between a b x (pos n) h k = inl (times_pos a x n h, times_pos x b n k)
product_between a b x (negsuc n) h k = inr (times_negsuc x b n k, times_negsuc a x n h)

product_between_right : (c d y z : ℤ) → c ≤ℤ y → y ≤ℤ d → IsBetween (z *ℤ c) (z *ℤ d) (z *ℤ y)
product_between_right c d y z h k =
    rw (*ℤ_comm z c, *ℤ_comm z d, *ℤ_comm z y) (product_between c d y z h k)

pub product_among : (a b c d x y : ℤ) → a ≤ℤ x → x ≤ℤ b → c ≤ℤ y → y ≤ℤ d → IsAmong (corners ◌*ℤ◌ a b c d) (x *ℤ y)
product_among a b c d x y h k l m =
    among_corners ◌*ℤ◌ a b c d x y (product_between a b x y h k) (product_between_right c d y a l m) (product_between_right c d y b l m)

-- ---- quotients

over_more : (m n k : ℕ) → m ≤ n → m / suc k ≤ n / suc k
over_more m n k h = (le-div_iff_mul-le {k = suc k} {x = m / suc k} {y = n} (omega arith)).1 (omega (arith, div-mul-le_self m (suc k)))

by_more : (n k l : ℕ) → suc k ≤ l → n / l ≤ n / suc k
by_more n k l h =
    (le-div_iff_mul-le {k = suc k} {x = n / l} {y = n} (omega arith)).1 (omega (arith, div-mul-le_self n l, mul-le-mul_left (n / l) h))

over_pos : (u v : ℤ) (n : ℕ) → u ≤ℤ v → int_div u (pos (suc n)) ≤ℤ int_div v (pos (suc n))
over_pos (pos p) (pos q) n h = pos_order (p / suc n) (q / suc n) (over_more p q n (pos_of p q h))
over_pos (pos p) (negsuc q) n h = absurd h.le
over_pos (negsuc p) (pos q) n h = neg_below (suc p / suc n) (q / suc n)
over_pos (negsuc p) (negsuc q) n h = neg_reverses (suc q / suc n) (suc p / suc n) (over_more (suc q) (suc p) n (negsuc_of p q h))

over_negsuc : (u v : ℤ) (n : ℕ) → u ≤ℤ v → int_div v (negsuc n) ≤ℤ int_div u (negsuc n)
over_negsuc (pos p) (pos q) n h = neg_reverses (p / suc n) (q / suc n) (over_more p q n (pos_of p q h))
over_negsuc (pos p) (negsuc q) n h = absurd h.le
over_negsuc (negsuc p) (pos q) n h = neg_below (q / suc n) (suc p / suc n)
over_negsuc (negsuc p) (negsuc q) n h = pos_order (suc q / suc n) (suc p / suc n) (over_more (suc q) (suc p) n (negsuc_of p q h))

-- d isn't 0
quotient_between : (a b x d : ℤ) → (pos 0 <ℤ d) ⊎ (d <ℤ pos 0) → a ≤ℤ x → x ≤ℤ b → IsBetween (int_div a d) (int_div b d) (int_div x d)
quotient_between a b x (pos zero) s h k = absurd (⊎_elim (λ t. t.lt) (λ t. t.lt) s)
quotient_between a b x (pos (suc n)) s h k = inl (over_pos a x n h, over_pos x b n k)
quotient_between a b x (negsuc n) s h k = inr (over_negsuc x b n k, over_negsuc a x n h)

by_positive : (z : ℤ) (p d q : ℕ) → suc p ≤ suc d → suc d ≤ suc q → IsBetween (int_div z (pos (suc p))) (int_div z (pos (suc q))) (int_div z (pos (suc d)))
by_positive (pos a) p d q h k = inr (pos_order (a / suc q) (a / suc d) (by_more a d (suc q) k), pos_order (a / suc d) (a / suc p) (by_more a p (suc d) h))
by_positive (negsuc a) p d q h k = inl (neg_reverses (suc a / suc d) (suc a / suc p) (by_more (suc a) p (suc d) h), neg_reverses (suc a / suc q) (suc a / suc d) (by_more (suc a) d (suc q) k))

by_negative : (z : ℤ) (p d q : ℕ) → suc d ≤ suc p → suc q ≤ suc d → IsBetween (int_div z (negsuc p)) (int_div z (negsuc q)) (int_div z (negsuc d))
by_negative (pos a) p d q h k = inr (neg_reverses (a / suc d) (a / suc q) (by_more a q (suc d) k), neg_reverses (a / suc p) (a / suc d) (by_more a d (suc p) h))
by_negative (negsuc a) p d q h k = inl (pos_order (suc a / suc p) (suc a / suc d) (by_more (suc a) d (suc p) h), pos_order (suc a / suc d) (suc a / suc q) (by_more (suc a) q (suc d) k))

above_zero : (z : ℤ) → pos 0 <ℤ z → (n : ℕ) × (z ≡ pos (suc n))
above_zero (pos zero) h = absurd h.lt
above_zero (pos (suc n)) h = (n, refl)
above_zero (negsuc n) h = absurd h.lt

below_zero : (z : ℤ) → z <ℤ pos 0 → (n : ℕ) × (z ≡ negsuc n)
below_zero (pos n) h = absurd (omega (arith, ints))
below_zero (negsuc n) h = (n, refl)

-- c, y and d have one sign
abbrev pub HaveOneSign : ℤ → ℤ → Type 0
HaveOneSign c d = (pos 0 <ℤ c) ⊎ (d <ℤ pos 0)

between_at : (z c d y c' d' y' : ℤ) → c ≡ c' → d ≡ d' → y ≡ y' → IsBetween (int_div z c') (int_div z d') (int_div z y') → IsBetween (int_div z c) (int_div z d) (int_div z y)
between_at z c d y c' d' y' e f g h = subst (λ x. IsBetween (int_div z x) (int_div z d) (int_div z y)) (sym e) (subst (λ x. IsBetween (int_div z c') (int_div z x) (int_div z y)) (sym f) (subst (λ x. IsBetween (int_div z c') (int_div z d') (int_div z x)) (sym g) h))

quotient_between_right : (c d y z : ℤ) → HaveOneSign c d → c ≤ℤ y → y ≤ℤ d → IsBetween (int_div z c) (int_div z d) (int_div z y)
quotient_between_right c d y z (inl s) h k =
    let c' = above_zero c s in
    let y' = above_zero y (omega (arith, ints)) in
    let d' = above_zero d (omega (arith, ints)) in
    between_at z c d y (pos (suc c'.0)) (pos (suc d'.0)) (pos (suc y'.0)) c'.1 d'.1 y'.1 (by_positive z c'.0 y'.0 d'.0 (omega (arith, ints, c'.1, y'.1)) (omega (arith, ints, d'.1, y'.1)))
quotient_between_right c d y z (inr s) h k =
    let c' = below_zero c (omega (arith, ints)) in
    let y' = below_zero y (omega (arith, ints)) in
    let d' = below_zero d s in
    between_at z c d y (negsuc c'.0) (negsuc d'.0) (negsuc y'.0) c'.1 d'.1 y'.1 (by_negative z c'.0 y'.0 d'.0 (omega (arith, ints, c'.1, y'.1)) (omega (arith, ints, d'.1, y'.1)))

sign_of : (c d y : ℤ) → HaveOneSign c d → c ≤ℤ y → y ≤ℤ d → (pos 0 <ℤ y) ⊎ (y <ℤ pos 0)
sign_of c d y (inl s) h k = inl (omega (arith, ints))
sign_of c d y (inr s) h k = inr (omega (arith, ints))

pub quotient_among : (a b c d x y : ℤ) → HaveOneSign c d → a ≤ℤ x → x ≤ℤ b → c ≤ℤ y → y ≤ℤ d → IsAmong (corners int_div a b c d) (int_div x y)
quotient_among a b c d x y s h k l m =
    among_corners int_div a b c d x y (quotient_between a b x y (sign_of c d y s l m) h k) (quotient_between_right c d y a s l m) (quotient_between_right c d y b s l m)
