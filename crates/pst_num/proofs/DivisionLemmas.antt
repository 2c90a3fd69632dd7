-- Quotients rounded towards 0, and shifts to the right, which round down.
use Rattle.std.proofs.Common.{◌≡◌, ◌≢◌, ℕ, zero, suc, ◌*◌, ◌/◌, ◌%◌, ◌^◌, ◌<◌, ◌≤◌, ℤ, pos, negsuc, neg_ℤ, ◌+ℤ◌, ◌*ℤ◌, ◌<ℤ◌, ◌≤ℤ◌, nat_abs, int_rem, arith, refl, ap}
use Rattle.std.proofs.Math.Nat.{lt-div-mul-add, div-mul-le_self, mod-le}
use Rattle.std.proofs.lemmas.Int.{quot-rem, rem_below, ints}
use Rattle.std.proofs.lemmas.Nat.{pow_pos}
use Rattle.pst_num.specs.Laws.{RoundsTowardsZero, IsFloor, RoundsDown}

abs_above : (b : ℤ) → b ≢ pos 0 → 0 < nat_abs b
abs_above (pos zero) h = absurd (h refl)
abs_above (pos (suc n)) h = omega arith
abs_above (negsuc n) h = omega arith

neg_not_above : (m : ℕ) → neg_ℤ (pos m) ≤ℤ pos 0
neg_not_above zero = omega (arith, ints)
neg_not_above (suc n) = omega (arith, ints)

rem_not_below : (a b : ℤ) → pos 0 ≤ℤ a → pos 0 ≤ℤ int_rem a b
rem_not_below (pos n) b h = omega (arith, ints)
rem_not_below (negsuc n) b h = absurd (omega (arith, ints))

rem_not_above : (a b : ℤ) → a ≤ℤ pos 0 → int_rem a b ≤ℤ pos 0
rem_not_above (pos n) b h = omega (arith, ints, mod-le n (nat_abs b))
rem_not_above (negsuc n) b h = neg_not_above (suc n % nat_abs b)

pub rounds_towards_zero : RoundsTowardsZero
rounds_towards_zero a b h = record {
  adds_up = quot-rem a b;
  small = rem_below a b (abs_above b h);
  not_below = rem_not_below a b;
  not_above = rem_not_above a b;
}

neg_at_most : (m k : ℕ) → suc k ≤ m → neg_ℤ (pos m) ≤ℤ negsuc k
neg_at_most zero k h = absurd (omega arith)
neg_at_most (suc n) k h = omega (arith, ints)

neg_above : (m k : ℕ) → m ≤ k → negsuc k <ℤ neg_ℤ (pos m)
neg_above zero k h = omega (arith, ints)
neg_above (suc n) k h = omega (arith, ints)

next_times : (q p : ℕ) → (negsuc q +ℤ pos 1) *ℤ pos p ≡ neg_ℤ (pos (q * p))
next_times zero p = let e : 0 * p ≡ 0 = omega arith in rw e refl
next_times (suc q) p = let e : negsuc (suc q) +ℤ pos 1 ≡ negsuc q = omega (arith, ints) in ap (λ z. z *ℤ pos p) e

floor : (a : ℤ) (n : ℕ) → IsFloor a n
floor (pos a) n =
    let p = 2 ^ n in
    record {
      at_most = omega (arith, ints, div-mul-le_self a p);
      next_is_above = omega (arith, ints, lt-div-mul-add {a = a} (pow_pos n));
    }
floor (negsuc a) n =
    let p = 2 ^ n in
    record {
      at_most = neg_at_most (suc (a / p) * p) a (omega (arith, lt-div-mul-add {a = a} (pow_pos n)));
      next_is_above = rw (next_times (a / p) p) (neg_above (a / p * p) a (div-mul-le_self a p));
    }

pub rounds_down : RoundsDown
rounds_down = floor
