-- Powers of 2, and what a shift's value tells.
use Rattle.std.proofs.Common.{◌≡◌, ℕ, ◌*◌, ◌^◌, ◌≤◌, ℤ, pos, negsuc, ◌+ℤ◌, ◌*ℤ◌, ◌≤ℤ◌, ◌<ℤ◌, nat_lt, Bool, true, false, cond, Option, Some, None, arith, refl, sym, ap, ◌∙◌}
use Rattle.std.specs.Int.{int_shr}
use Rattle.std.proofs.lemmas.Int.{ints}
use Rattle.std.proofs.lemmas.Bool.Decides.{nat_tests}
use Rattle.std.proofs.Math.Pow.{pow_mono}
use Rattle.pst_num.specs.Range.{in_range}
use Rattle.pst_num.specs.Arithmetic.{product_of}
use Rattle.pst_num.specs.Shifts.{shifted_left, shifted_right}
use Rattle.pst_expr.specs.declared.ranges.Span.{Span}
use Rattle.pst_expr.specs.Spans.{IsInSpan}
use Rattle.pst_operands.specs.Powers.{HasPowers}
use Rattle.pst_operands.proofs.Exactly.{exact}
use Rattle.pst_operands.proofs.Products.{le_le, lt_le, weaker, up_left, up_right, down_right}

few : (n : ℕ) → nat_lt n 64 ≡ true → n ≤ 63
few n e = grind (arith, nat_tests)

-- a count from 0 to 63, where a shift gives something
pub record IsCounted (y : ℤ) (v : ℕ → Option ℤ) (z : ℤ) : Type 0 where
  pub count : ℕ
  pub is : y ≡ pos count
  pub few : count ≤ 63
  pub gives : v count ≡ Some z

counted : (n : ℕ) (v : ℕ → Option ℤ) (z : ℤ) → cond (nat_lt n 64) (v n) None ≡ Some z → IsCounted (pos n) v z
counted n v z e = go (nat_lt n 64) refl e
  where
    go : (b : Bool) → nat_lt n 64 ≡ b → cond b (v n) None ≡ Some z → IsCounted (pos n) v z
    go true t e = record { count = n; is = refl; few = few n t; gives = e }
    go false t e = absurd cc

pub left_counted : (x y z : ℤ) → shifted_left x y ≡ Some z → IsCounted y (λ n. product_of x (pos (2 ^ n))) z
left_counted x (pos n) z e = counted n (λ n. product_of x (pos (2 ^ n))) z e
left_counted x (negsuc n) z e = absurd cc

pub right_counted : (x y z : ℤ) → shifted_right x y ≡ Some z → IsCounted y (λ n. in_range (int_shr x n)) z
right_counted x (pos n) z e = counted n (λ n. in_range (int_shr x n)) z e
right_counted x (negsuc n) z e = absurd cc

-- 1 shifted to the left
pub record IsPower (y p : ℤ) : Type 0 where
  pub count : ℕ
  pub is : y ≡ pos count
  pub power : p ≡ pos (2 ^ count)

pub power_of : (y p : ℤ) → shifted_left (pos 1) y ≡ Some p → IsPower y p
power_of y p e =
    let k = left_counted (pos 1) y p e in
    let whole : 1 * 2 ^ k.count ≡ 2 ^ k.count = omega arith in
    record { count = k.count; is = k.is; power = sym (exact (pos 1 *ℤ pos (2 ^ k.count)) p k.gives) ∙ ap pos whole }

pub powers_of : (s t : Span) → IsPower s.low t.low → IsPower s.high t.high → HasPowers s t
powers_of s t low high n at =
    let a : low.count ≤ n = omega (arith, ints, low.is, at.0) in
    let b : n ≤ high.count = omega (arith, ints, high.is, at.1) in
    let p : 2 ^ low.count ≤ 2 ^ n = pow_mono a in
    let q : 2 ^ n ≤ 2 ^ high.count = pow_mono b in
    (omega (arith, ints, low.power, p), omega (arith, ints, high.power, q))

pub in_counts : (y : ℤ) (n : ℕ) → y ≡ pos n → n ≤ 63 → IsInSpan y (record { low = pos 0; high = pos 63 })
in_counts y n e h = (omega (arith, ints, e), omega (arith, ints, e))

pub power_not_negative : (n : ℕ) → pos 0 ≤ℤ pos (2 ^ n)
power_not_negative n = natural (2 ^ n)
  where
    natural : (m : ℕ) → pos 0 ≤ℤ pos m
    natural m = omega (arith, ints)

-- ---- what is shifted to the right

module _ (x z p : ℤ) (g : pos 0 ≤ℤ p) where
  module _ (h : (z *ℤ p) ≤ℤ x) where
    pub low_with_greatest : (b L : ℤ) → p ≤ℤ b → L ≤ℤ z → L <ℤ pos 0 → (L *ℤ b) ≤ℤ x
    low_with_greatest b L k l n = le_le (L *ℤ b) (L *ℤ p) x (down_right p b L k (weaker L (pos 0) n)) (le_le (L *ℤ p) (z *ℤ p) x (up_left L z p l g) h)

    pub low_with_least : (a L : ℤ) → a ≤ℤ p → L ≤ℤ z → pos 0 ≤ℤ L → (L *ℤ a) ≤ℤ x
    low_with_least a L k l n = le_le (L *ℤ a) (L *ℤ p) x (up_right a p L k n) (le_le (L *ℤ p) (z *ℤ p) x (up_left L z p l g) h)

  module _ (h : x <ℤ ((z +ℤ pos 1) *ℤ p)) where
    next_at_most : (H H' : ℤ) → z ≤ℤ H → H' ≡ H +ℤ pos 1 → (z +ℤ pos 1) ≤ℤ H'
    next_at_most H H' k e = omega (arith, ints)

    pub high_with_least : (a H H' : ℤ) → a ≤ℤ p → z ≤ℤ H → H' ≡ H +ℤ pos 1 → H' <ℤ pos 0 → x <ℤ (H' *ℤ a)
    high_with_least a H H' k l e n =
        lt_le x ((z +ℤ pos 1) *ℤ p) (H' *ℤ a) h
        (le_le ((z +ℤ pos 1) *ℤ p) (H' *ℤ p) (H' *ℤ a) (up_left (z +ℤ pos 1) H' p (next_at_most H H' l e) g) (down_right a p H' k (weaker H' (pos 0) n)))

    pub high_with_greatest : (b H H' : ℤ) → p ≤ℤ b → z ≤ℤ H → H' ≡ H +ℤ pos 1 → pos 0 ≤ℤ H' → x <ℤ (H' *ℤ b)
    high_with_greatest b H H' k l e n =
        lt_le x ((z +ℤ pos 1) *ℤ p) (H' *ℤ b) h
        (le_le ((z +ℤ pos 1) *ℤ p) (H' *ℤ p) (H' *ℤ b) (up_left (z +ℤ pos 1) H' p (next_at_most H H' l e) g) (up_right p b H' k n))
