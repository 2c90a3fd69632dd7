-- Quotients rounded up and down, from those rounded towards 0.
use Rattle.std.proofs.Common.{◌≡◌, ◌⊎◌, ⊎_elim, ◌<◌, ℤ, pos, neg_ℤ, nat_abs, ◌+ℤ◌, ◌-ℤ◌, ◌*ℤ◌, ◌≤ℤ◌, ◌<ℤ◌, arith, subst}
use Rattle.std.proofs.lemmas.Int.{ints}
use Rattle.pst_operands.proofs.Products.{le_le, lt_le, le_lt, never, weaker, up_left, down_left, more_times, less_times}

pub at_most_or_more : (x q : ℤ) → (x ≤ℤ q) ⊎ ((q +ℤ pos 1) ≤ℤ x)
at_most_or_more x q = grind (arith, ints)

pub at_most_less_or : (x q : ℤ) → (x ≤ℤ (q -ℤ pos 1)) ⊎ (q ≤ℤ x)
at_most_less_or x q = grind (arith, ints)

-- what is left is nearer to 0 than the divisor
pub near_positive : (r b : ℤ) → nat_abs r < nat_abs b → pos 0 <ℤ b → (neg_ℤ b <ℤ r) × (r <ℤ b)
near_positive r b h k = (omega (arith, ints), omega (arith, ints))

pub near_negative : (r b : ℤ) → nat_abs r < nat_abs b → b <ℤ pos 0 → (b <ℤ r) × (r <ℤ neg_ℤ b)
near_negative r b h k = (omega (arith, ints), omega (arith, ints))

pub above_zero : (b : ℤ) → pos 0 <ℤ b → 0 < nat_abs b
above_zero b h = omega (arith, ints)

pub under_zero : (b : ℤ) → b <ℤ pos 0 → 0 < nat_abs b
under_zero b h = omega (arith, ints)

pub sum_below : (p r b a : ℤ) → (p +ℤ r) ≡ a → r <ℤ b → a <ℤ (p +ℤ b)
sum_below p r b a e h = omega (arith, ints)

pub sum_above : (p r b a : ℤ) → (p +ℤ r) ≡ a → b <ℤ r → (p +ℤ b) <ℤ a
sum_above p r b a e h = omega (arith, ints)

pub before_sum : (s b p r a : ℤ) → (s +ℤ b) ≡ p → (p +ℤ r) ≡ a → neg_ℤ b <ℤ r → s <ℤ a
before_sum s b p r a e f h = omega (arith, ints)

pub after_sum : (s b p r a : ℤ) → (s +ℤ b) ≡ p → (p +ℤ r) ≡ a → r <ℤ neg_ℤ b → a <ℤ s
after_sum s b p r a e f h = omega (arith, ints)

pub less_left : (p r a : ℤ) → (p +ℤ r) ≡ a → r <ℤ pos 0 → a <ℤ p
less_left p r a e h = omega (arith, ints)

pub more_left : (p r a : ℤ) → (p +ℤ r) ≡ a → pos 0 <ℤ r → p <ℤ a
more_left p r a e h = omega (arith, ints)

module _ (a b q r x : ℤ) (adds : ((q *ℤ b) +ℤ r) ≡ a) where
  module _ (above : pos 0 <ℤ b) where
    pub down_whole : r <ℤ b → (x *ℤ b) ≤ℤ a → x ≤ℤ q
    down_whole near h =
        ⊎_elim (λ l. l)
        (λ g.
        let next : ((q *ℤ b) +ℤ b) ≤ℤ (x *ℤ b) = subst (λ v. v ≤ℤ (x *ℤ b)) (more_times q b) (up_left (q +ℤ pos 1) x b g (weaker (pos 0) b above)) in
        absurd (never a (lt_le a ((q *ℤ b) +ℤ b) a (sum_below (q *ℤ b) r b a adds near) (le_le ((q *ℤ b) +ℤ b) (x *ℤ b) a next h))))
        (at_most_or_more x q)

    pub down_less : r <ℤ pos 0 → (x *ℤ b) ≤ℤ a → x ≤ℤ (q -ℤ pos 1)
    down_less under h =
        ⊎_elim (λ l. l)
        (λ g. absurd (never a (lt_le a (q *ℤ b) a (less_left (q *ℤ b) r a adds under) (le_le (q *ℤ b) (x *ℤ b) a (up_left q x b g (weaker (pos 0) b above)) h))))
        (at_most_less_or x q)

    pub up_whole : neg_ℤ b <ℤ r → a ≤ℤ (x *ℤ b) → q ≤ℤ x
    up_whole near h =
        ⊎_elim
        (λ l. absurd (never a (le_lt a (x *ℤ b) a h (le_lt (x *ℤ b) ((q -ℤ pos 1) *ℤ b) a (up_left x (q -ℤ pos 1) b l (weaker (pos 0) b above)) (before_sum ((q -ℤ pos 1) *ℤ b) b (q *ℤ b) r a (less_times q b) adds near)))))
        (λ g. g)
        (at_most_less_or x q)

    pub up_more : pos 0 <ℤ r → a ≤ℤ (x *ℤ b) → (q +ℤ pos 1) ≤ℤ x
    up_more over h =
        ⊎_elim
        (λ l. absurd (never a (le_lt a (x *ℤ b) a h (le_lt (x *ℤ b) (q *ℤ b) a (up_left x q b l (weaker (pos 0) b above)) (more_left (q *ℤ b) r a adds over)))))
        (λ g. g)
        (at_most_or_more x q)

  module _ (under : b <ℤ pos 0) where
    pub down_whole_by_negative : b <ℤ r → a ≤ℤ (x *ℤ b) → x ≤ℤ q
    down_whole_by_negative near h =
        ⊎_elim (λ l. l)
        (λ g.
        let next : (x *ℤ b) ≤ℤ ((q *ℤ b) +ℤ b) = subst (λ v. (x *ℤ b) ≤ℤ v) (more_times q b) (down_left (q +ℤ pos 1) x b g (weaker b (pos 0) under)) in
        absurd (never a (le_lt a (x *ℤ b) a h (le_lt (x *ℤ b) ((q *ℤ b) +ℤ b) a next (sum_above (q *ℤ b) r b a adds near)))))
        (at_most_or_more x q)

    pub down_less_by_negative : pos 0 <ℤ r → a ≤ℤ (x *ℤ b) → x ≤ℤ (q -ℤ pos 1)
    down_less_by_negative over h =
        ⊎_elim (λ l. l)
        (λ g. absurd (never a (le_lt a (x *ℤ b) a h (le_lt (x *ℤ b) (q *ℤ b) a (down_left q x b g (weaker b (pos 0) under)) (more_left (q *ℤ b) r a adds over)))))
        (at_most_less_or x q)

    pub up_whole_by_negative : r <ℤ neg_ℤ b → (x *ℤ b) ≤ℤ a → q ≤ℤ x
    up_whole_by_negative near h =
        ⊎_elim
        (λ l. absurd (never a (lt_le a ((q -ℤ pos 1) *ℤ b) a (after_sum ((q -ℤ pos 1) *ℤ b) b (q *ℤ b) r a (less_times q b) adds near) (le_le ((q -ℤ pos 1) *ℤ b) (x *ℤ b) a (down_left x (q -ℤ pos 1) b l (weaker b (pos 0) under)) h))))
        (λ g. g)
        (at_most_less_or x q)

    pub up_more_by_negative : r <ℤ pos 0 → (x *ℤ b) ≤ℤ a → (q +ℤ pos 1) ≤ℤ x
    up_more_by_negative least h =
        ⊎_elim
        (λ l. absurd (never a (lt_le a (q *ℤ b) a (less_left (q *ℤ b) r a adds least) (le_le (q *ℤ b) (x *ℤ b) a (down_left x q b l (weaker b (pos 0) under)) h))))
        (λ g. g)
        (at_most_or_more x q)
