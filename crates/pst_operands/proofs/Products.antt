-- Products of whole numbers, in order.
use Rattle.std.proofs.Common.{◌≡◌, ◌⊎◌, inl, inr, ⊎_elim, ℕ, zero, suc, ◌*◌, ◌≤◌, ℤ, pos, negsuc, neg_ℤ, ◌+ℤ◌, ◌-ℤ◌, ◌*ℤ◌, ◌≤ℤ◌, ◌<ℤ◌, arith, sym, ap, subst, ◌∙◌}
use Rattle.std.proofs.lemmas.Int.{ints}
use Rattle.std.proofs.Math.IntN.{*ℤ_comm, *ℤ-zero, zero-*ℤ, +ℤ_one, suc_ℤ-*ℤ}
use Rattle.std.proofs.Math.Nat.{mul-le-mul_right}

pub le_le : (a b c : ℤ) → a ≤ℤ b → b ≤ℤ c → a ≤ℤ c
le_le a b c h k = omega (arith, ints)

pub lt_le : (a b c : ℤ) → a <ℤ b → b ≤ℤ c → a <ℤ c
lt_le a b c h k = omega (arith, ints)

pub le_lt : (a b c : ℤ) → a ≤ℤ b → b <ℤ c → a <ℤ c
le_lt a b c h k = omega (arith, ints)

pub never : (a : ℤ) → a <ℤ a → ⊥
never a h = omega (arith, ints)

pub weaker : (a b : ℤ) → a <ℤ b → a ≤ℤ b
weaker a b h = omega (arith, ints)

pub either_sign : (x : ℤ) → (pos 0 ≤ℤ x) ⊎ (x ≤ℤ pos 0)
either_sign (pos n) = inl (omega (arith, ints))
either_sign (negsuc n) = inr (omega (arith, ints))

-- ---- one factor grows

neg_reverses : (m n : ℕ) → m ≤ n → neg_ℤ (pos n) ≤ℤ neg_ℤ (pos m)
neg_reverses m n h = omega (arith, ints)

neg_below : (m n : ℕ) → neg_ℤ (pos m) ≤ℤ pos n
neg_below m n = omega (arith, ints)

pos_order : (m n : ℕ) → m ≤ n → pos m ≤ℤ pos n
pos_order m n h = omega (arith, ints)

pos_of : (m n : ℕ) → pos m ≤ℤ pos n → m ≤ n
pos_of m n h = omega (arith, ints)

negsuc_of : (m n : ℕ) → negsuc m ≤ℤ negsuc n → suc n ≤ suc m
negsuc_of m n h = omega (arith, ints)

times_pos : (u v : ℤ) (n : ℕ) → u ≤ℤ v → (u *ℤ pos n) ≤ℤ (v *ℤ pos n)
times_pos (pos p) (pos q) n h = pos_order (p * n) (q * n) (mul-le-mul_right n (pos_of p q h))
times_pos (pos p) (negsuc q) n h = absurd h.le
times_pos (negsuc p) (pos q) n h = neg_below (suc p * n) (q * n)
times_pos (negsuc p) (negsuc q) n h = neg_reverses (suc q * n) (suc p * n) (mul-le-mul_right n (negsuc_of p q h))

times_negsuc : (u v : ℤ) (n : ℕ) → u ≤ℤ v → (v *ℤ negsuc n) ≤ℤ (u *ℤ negsuc n)
times_negsuc (pos p) (pos q) n h = neg_reverses (p * suc n) (q * suc n) (mul-le-mul_right (suc n) (pos_of p q h))
times_negsuc (pos p) (negsuc q) n h = absurd h.le
times_negsuc (negsuc p) (pos q) n h = neg_below (q * suc n) (suc p * suc n)
times_negsuc (negsuc p) (negsuc q) n h = pos_order (suc q * suc n) (suc p * suc n) (mul-le-mul_right (suc n) (negsuc_of p q h))

zero_le : pos 0 ≤ℤ pos 0
zero_le = omega (arith, ints)

pub up_left : (u v b : ℤ) → u ≤ℤ v → pos 0 ≤ℤ b → (u *ℤ b) ≤ℤ (v *ℤ b)
up_left u v (pos n) h k = times_pos u v n h
up_left u v (negsuc n) h k = absurd (omega (arith, ints))

pub down_left : (u v b : ℤ) → u ≤ℤ v → b ≤ℤ pos 0 → (v *ℤ b) ≤ℤ (u *ℤ b)
down_left u v (pos zero) h k = rw (*ℤ-zero u, *ℤ-zero v) zero_le
down_left u v (pos (suc n)) h k = absurd (omega (arith, ints))
down_left u v (negsuc n) h k = times_negsuc u v n h

pub up_right : (u v b : ℤ) → u ≤ℤ v → pos 0 ≤ℤ b → (b *ℤ u) ≤ℤ (b *ℤ v)
up_right u v b h k = subst (λ a. a ≤ℤ (b *ℤ v)) (*ℤ_comm u b) (subst (λ a. (u *ℤ b) ≤ℤ a) (*ℤ_comm v b) (up_left u v b h k))

pub down_right : (u v b : ℤ) → u ≤ℤ v → b ≤ℤ pos 0 → (b *ℤ v) ≤ℤ (b *ℤ u)
down_right u v b h k = subst (λ a. a ≤ℤ (b *ℤ u)) (*ℤ_comm v b) (subst (λ a. (v *ℤ b) ≤ℤ a) (*ℤ_comm u b) (down_left u v b h k))

-- ---- signs of products

pub plus_plus : (x y : ℤ) → pos 0 ≤ℤ x → pos 0 ≤ℤ y → pos 0 ≤ℤ (x *ℤ y)
plus_plus x y h k = subst (λ a. a ≤ℤ (x *ℤ y)) (zero-*ℤ y) (up_left (pos 0) x y h k)

pub minus_plus : (x y : ℤ) → x ≤ℤ pos 0 → pos 0 ≤ℤ y → (x *ℤ y) ≤ℤ pos 0
minus_plus x y h k = subst (λ a. (x *ℤ y) ≤ℤ a) (zero-*ℤ y) (up_left x (pos 0) y h k)

pub plus_minus : (x y : ℤ) → pos 0 ≤ℤ x → y ≤ℤ pos 0 → (x *ℤ y) ≤ℤ pos 0
plus_minus x y h k = subst (λ a. (x *ℤ y) ≤ℤ a) (zero-*ℤ y) (down_left (pos 0) x y h k)

pub minus_minus : (x y : ℤ) → x ≤ℤ pos 0 → y ≤ℤ pos 0 → pos 0 ≤ℤ (x *ℤ y)
minus_minus x y h k = subst (λ a. a ≤ℤ (x *ℤ y)) (zero-*ℤ y) (down_left x (pos 0) y h k)

-- ---- one more and one less

pub more_times : (u b : ℤ) → (u +ℤ pos 1) *ℤ b ≡ (u *ℤ b) +ℤ b
more_times u b = ap (λ a. a *ℤ b) (+ℤ_one u) ∙ suc_ℤ-*ℤ u b

pub less_times : (u b : ℤ) → ((u -ℤ pos 1) *ℤ b) +ℤ b ≡ u *ℤ b
less_times u b =
    let e : (u -ℤ pos 1) +ℤ pos 1 ≡ u = omega (arith, ints) in
    sym (more_times (u -ℤ pos 1) b) ∙ ap (λ a. a *ℤ b) e

-- ---- a product with one factor in place of another

module _ (x y : ℤ) where
  module _ (above : pos 0 <ℤ y) where
    -- L is at most the product, and b at least y
    pub low_by_greater : (b L : ℤ) → y ≤ℤ b → pos 0 <ℤ L → L ≤ℤ (x *ℤ y) → L ≤ℤ (x *ℤ b)
    low_by_greater b L h k l =
        ⊎_elim
        (λ p. le_le L (x *ℤ y) (x *ℤ b) l (up_right y b x h p))
        (λ n. absurd (never (pos 0) (lt_le (pos 0) L (pos 0) k (le_le L (x *ℤ y) (pos 0) l (minus_plus x y n (weaker (pos 0) y above))))))
        (either_sign x)

    pub low_by_lesser : (a L : ℤ) → pos 0 <ℤ a → a ≤ℤ y → L ≤ℤ pos 0 → L ≤ℤ (x *ℤ y) → L ≤ℤ (x *ℤ a)
    low_by_lesser a L g h k l =
        ⊎_elim
        (λ p. le_le L (pos 0) (x *ℤ a) k (plus_plus x a p (weaker (pos 0) a g)))
        (λ n. le_le L (x *ℤ y) (x *ℤ a) l (down_right a y x h n))
        (either_sign x)

    -- and H at least the product
    pub high_by_greater : (b H : ℤ) → y ≤ℤ b → H <ℤ pos 0 → (x *ℤ y) ≤ℤ H → (x *ℤ b) ≤ℤ H
    high_by_greater b H h k l =
        ⊎_elim
        (λ p. absurd (never (pos 0) (le_lt (pos 0) H (pos 0) (le_le (pos 0) (x *ℤ y) H (plus_plus x y p (weaker (pos 0) y above)) l) k)))
        (λ n. le_le (x *ℤ b) (x *ℤ y) H (down_right y b x h n) l)
        (either_sign x)

    pub high_by_lesser : (a H : ℤ) → pos 0 <ℤ a → a ≤ℤ y → pos 0 ≤ℤ H → (x *ℤ y) ≤ℤ H → (x *ℤ a) ≤ℤ H
    high_by_lesser a H g h k l =
        ⊎_elim
        (λ p. le_le (x *ℤ a) (x *ℤ y) H (up_right a y x h p) l)
        (λ n. le_le (x *ℤ a) (pos 0) H (minus_plus x a n (weaker (pos 0) a g)) k)
        (either_sign x)

  module _ (under : y <ℤ pos 0) where
    pub low_by_lower : (a L : ℤ) → a ≤ℤ y → pos 0 <ℤ L → L ≤ℤ (x *ℤ y) → L ≤ℤ (x *ℤ a)
    low_by_lower a L h k l =
        ⊎_elim
        (λ p. absurd (never (pos 0) (lt_le (pos 0) L (pos 0) k (le_le L (x *ℤ y) (pos 0) l (plus_minus x y p (weaker y (pos 0) under))))))
        (λ n. le_le L (x *ℤ y) (x *ℤ a) l (down_right a y x h n))
        (either_sign x)

    pub low_by_nearer : (b L : ℤ) → b <ℤ pos 0 → y ≤ℤ b → L ≤ℤ pos 0 → L ≤ℤ (x *ℤ y) → L ≤ℤ (x *ℤ b)
    low_by_nearer b L g h k l =
        ⊎_elim
        (λ p. le_le L (x *ℤ y) (x *ℤ b) l (up_right y b x h p))
        (λ n. le_le L (pos 0) (x *ℤ b) k (minus_minus x b n (weaker b (pos 0) g)))
        (either_sign x)

    pub high_by_lower : (a H : ℤ) → a ≤ℤ y → H <ℤ pos 0 → (x *ℤ y) ≤ℤ H → (x *ℤ a) ≤ℤ H
    high_by_lower a H h k l =
        ⊎_elim
        (λ p. le_le (x *ℤ a) (x *ℤ y) H (up_right a y x h p) l)
        (λ n. absurd (never (pos 0) (le_lt (pos 0) H (pos 0) (le_le (pos 0) (x *ℤ y) H (minus_minus x y n (weaker y (pos 0) under)) l) k)))
        (either_sign x)

    pub high_by_nearer : (b H : ℤ) → b <ℤ pos 0 → y ≤ℤ b → pos 0 ≤ℤ H → (x *ℤ y) ≤ℤ H → (x *ℤ b) ≤ℤ H
    high_by_nearer b H g h k l =
        ⊎_elim
        (λ p. le_le (x *ℤ b) (pos 0) H (plus_minus x b p (weaker b (pos 0) g)) k)
        (λ n. le_le (x *ℤ b) (x *ℤ y) H (down_right y b x h n) l)
        (either_sign x)
