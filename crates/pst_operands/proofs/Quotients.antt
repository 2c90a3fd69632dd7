-- What a wanted quotient tells of the dividend.
use Rattle.std.proofs.Common.{◌≡◌, ℤ, pos, ◌+ℤ◌, ◌-ℤ◌, ◌*ℤ◌, ◌≤ℤ◌, ◌<ℤ◌, int_div, int_rem, arith, sym, subst}
use Rattle.std.proofs.lemmas.Int.{ints}
use Rattle.pst_num.specs.Laws.{IsTruncated}
use Rattle.pst_operands.proofs.Products.{le_le, lt_le, le_lt, weaker, up_left, down_left, up_right, down_right, more_times, less_times}
use Rattle.std.proofs.Math.IntN.{zero-*ℤ}
use Rattle.pst_operands.proofs.Divisions.{near_positive, near_negative, sum_below, sum_above, before_sum, after_sum}

no_times : (y : ℤ) → pos 0 *ℤ y ≡ pos 0
no_times y = zero-*ℤ y

-- a number whose quotient is left with nothing on the other side
not_more : (p r x : ℤ) → (p +ℤ r) ≡ x → r ≤ℤ pos 0 → x ≤ℤ p
not_more p r x e h = omega (arith, ints)

not_less : (p r x : ℤ) → (p +ℤ r) ≡ x → pos 0 ≤ℤ r → p ≤ℤ x
not_less p r x e h = omega (arith, ints)

one_more : (z H H' : ℤ) → z ≤ℤ H → H' ≡ H +ℤ pos 1 → (z +ℤ pos 1) ≤ℤ H'
one_more z H H' h e = omega (arith, ints)

one_less : (z L L' : ℤ) → L ≤ℤ z → L' ≡ L -ℤ pos 1 → L' ≤ℤ (z -ℤ pos 1)
one_less z L L' h e = omega (arith, ints)

next_not_negative : (H H' : ℤ) → pos 0 ≤ℤ H → H' ≡ H +ℤ pos 1 → pos 0 ≤ℤ H'
next_not_negative H H' h e = omega (arith, ints)

last_not_positive : (L L' : ℤ) → L ≤ℤ pos 0 → L' ≡ L -ℤ pos 1 → L' ≤ℤ pos 0
last_not_positive L L' h e = omega (arith, ints)

up_to_zero : (z H : ℤ) → z ≤ℤ H → H <ℤ pos 0 → (z +ℤ pos 1) ≤ℤ pos 0
up_to_zero z H h k = omega (arith, ints)

from_zero : (z L : ℤ) → L ≤ℤ z → pos 0 <ℤ L → pos 0 ≤ℤ (z -ℤ pos 1)
from_zero z L h k = omega (arith, ints)

under : (x : ℤ) → x <ℤ pos 0 → x ≤ℤ pos 0
under x h = weaker x (pos 0) h

module _ (x y : ℤ) (t : IsTruncated x y) where
  -- the quotient, and what is left
  abbrev z : ℤ
  z = int_div x y

  abbrev r : ℤ
  r = int_rem x y

  -- the product that is a divisor away, on each side
  above_positive : pos 0 <ℤ y → x <ℤ ((z +ℤ pos 1) *ℤ y)
  above_positive g = subst (λ v. x <ℤ v) (sym (more_times z y)) (sum_below (z *ℤ y) r y x t.adds_up (near_positive r y t.small g).1)

  below_positive : pos 0 <ℤ y → ((z -ℤ pos 1) *ℤ y) <ℤ x
  below_positive g = before_sum ((z -ℤ pos 1) *ℤ y) y (z *ℤ y) r x (less_times z y) t.adds_up (near_positive r y t.small g).0

  above_negative : y <ℤ pos 0 → x <ℤ ((z -ℤ pos 1) *ℤ y)
  above_negative g = after_sum ((z -ℤ pos 1) *ℤ y) y (z *ℤ y) r x (less_times z y) t.adds_up (near_negative r y t.small g).1

  below_negative : y <ℤ pos 0 → ((z +ℤ pos 1) *ℤ y) <ℤ x
  below_negative g = subst (λ v. v <ℤ x) (sym (more_times z y)) (sum_above (z *ℤ y) r y x t.adds_up (near_negative r y t.small g).0)

  module _ (g : pos 0 <ℤ y) where
    pub high_with_greater : (b H H' : ℤ) → y ≤ℤ b → z ≤ℤ H → pos 0 ≤ℤ H → H' ≡ H +ℤ pos 1 → x <ℤ (H' *ℤ b)
    high_with_greater b H H' h k l e =
        lt_le x ((z +ℤ pos 1) *ℤ y) (H' *ℤ b) (above_positive g)
        (le_le ((z +ℤ pos 1) *ℤ y) (H' *ℤ y) (H' *ℤ b) (up_left (z +ℤ pos 1) H' y (one_more z H H' k e) (weaker (pos 0) y g)) (up_right y b H' h (next_not_negative H H' l e)))

    pub high_with_lesser : (a H : ℤ) → a ≤ℤ y → z ≤ℤ H → H <ℤ pos 0 → x ≤ℤ (H *ℤ a)
    high_with_lesser a H h k l =
        let negative : x <ℤ pos 0 = lt_le x ((z +ℤ pos 1) *ℤ y) (pos 0) (above_positive g) (subst (λ v. ((z +ℤ pos 1) *ℤ y) ≤ℤ v) (no_times y) (up_left (z +ℤ pos 1) (pos 0) y (up_to_zero z H k l) (weaker (pos 0) y g))) in
        le_le x (z *ℤ y) (H *ℤ a) (not_more (z *ℤ y) r x t.adds_up (t.not_above (under x negative)))
        (le_le (z *ℤ y) (H *ℤ y) (H *ℤ a) (up_left z H y k (weaker (pos 0) y g)) (down_right a y H h (weaker H (pos 0) l)))

    pub low_with_greater : (b L L' : ℤ) → y ≤ℤ b → L ≤ℤ z → L ≤ℤ pos 0 → L' ≡ L -ℤ pos 1 → (L' *ℤ b) <ℤ x
    low_with_greater b L L' h k l e =
        le_lt (L' *ℤ b) ((z -ℤ pos 1) *ℤ y) x
        (le_le (L' *ℤ b) (L' *ℤ y) ((z -ℤ pos 1) *ℤ y) (down_right y b L' h (last_not_positive L L' l e)) (up_left L' (z -ℤ pos 1) y (one_less z L L' k e) (weaker (pos 0) y g)))
        (below_positive g)

    pub low_with_lesser : (a L : ℤ) → a ≤ℤ y → L ≤ℤ z → pos 0 <ℤ L → (L *ℤ a) ≤ℤ x
    low_with_lesser a L h k l =
        let positive : pos 0 <ℤ x = le_lt (pos 0) ((z -ℤ pos 1) *ℤ y) x (subst (λ v. v ≤ℤ ((z -ℤ pos 1) *ℤ y)) (no_times y) (up_left (pos 0) (z -ℤ pos 1) y (from_zero z L k l) (weaker (pos 0) y g))) (below_positive g) in
        le_le (L *ℤ a) (z *ℤ y) x
        (le_le (L *ℤ a) (L *ℤ y) (z *ℤ y) (up_right a y L h (weaker (pos 0) L l)) (up_left L z y k (weaker (pos 0) y g)))
        (not_less (z *ℤ y) r x t.adds_up (t.not_below (weaker (pos 0) x positive)))

  module _ (g : y <ℤ pos 0) where
    pub high_with_lower : (a L L' : ℤ) → a ≤ℤ y → L ≤ℤ z → L ≤ℤ pos 0 → L' ≡ L -ℤ pos 1 → x <ℤ (L' *ℤ a)
    high_with_lower a L L' h k l e =
        lt_le x ((z -ℤ pos 1) *ℤ y) (L' *ℤ a) (above_negative g)
        (le_le ((z -ℤ pos 1) *ℤ y) (L' *ℤ y) (L' *ℤ a) (down_left L' (z -ℤ pos 1) y (one_less z L L' k e) (weaker y (pos 0) g)) (down_right a y L' h (last_not_positive L L' l e)))

    pub high_with_nearer : (b L : ℤ) → y ≤ℤ b → L ≤ℤ z → pos 0 <ℤ L → x ≤ℤ (L *ℤ b)
    high_with_nearer b L h k l =
        let negative : x <ℤ pos 0 = lt_le x ((z -ℤ pos 1) *ℤ y) (pos 0) (above_negative g) (subst (λ v. ((z -ℤ pos 1) *ℤ y) ≤ℤ v) (no_times y) (down_left (pos 0) (z -ℤ pos 1) y (from_zero z L k l) (weaker y (pos 0) g))) in
        le_le x (z *ℤ y) (L *ℤ b) (not_more (z *ℤ y) r x t.adds_up (t.not_above (under x negative)))
        (le_le (z *ℤ y) (L *ℤ y) (L *ℤ b) (down_left L z y k (weaker y (pos 0) g)) (up_right y b L h (weaker (pos 0) L l)))

    pub low_with_lower : (a H H' : ℤ) → a ≤ℤ y → z ≤ℤ H → pos 0 ≤ℤ H → H' ≡ H +ℤ pos 1 → (H' *ℤ a) <ℤ x
    low_with_lower a H H' h k l e =
        le_lt (H' *ℤ a) ((z +ℤ pos 1) *ℤ y) x
        (le_le (H' *ℤ a) (H' *ℤ y) ((z +ℤ pos 1) *ℤ y) (up_right a y H' h (next_not_negative H H' l e)) (down_left (z +ℤ pos 1) H' y (one_more z H H' k e) (weaker y (pos 0) g)))
        (below_negative g)

    pub low_with_nearer : (b H : ℤ) → y ≤ℤ b → z ≤ℤ H → H <ℤ pos 0 → (H *ℤ b) ≤ℤ x
    low_with_nearer b H h k l =
        let positive : pos 0 <ℤ x = le_lt (pos 0) ((z +ℤ pos 1) *ℤ y) x (subst (λ v. v ≤ℤ ((z +ℤ pos 1) *ℤ y)) (no_times y) (down_left (z +ℤ pos 1) (pos 0) y (up_to_zero z H k l) (weaker y (pos 0) g))) (below_negative g) in
        le_le (H *ℤ b) (z *ℤ y) x
        (le_le (H *ℤ b) (H *ℤ y) (z *ℤ y) (down_right y b H h (weaker H (pos 0) l)) (down_left z H y k (weaker y (pos 0) g)))
        (not_less (z *ℤ y) r x t.adds_up (t.not_below (weaker (pos 0) x positive)))
