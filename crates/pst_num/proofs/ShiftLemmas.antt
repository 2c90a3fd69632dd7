-- The bounds between which a shift to the left gives a value.
use Rattle.std.proofs.Common.{◌≡◌, ℕ, zero, suc, ◌+◌, ◌-◌, ◌*◌, ◌/◌, ◌%◌, ◌^◌, ◌<◌, ◌≤◌, ℤ, pos, negsuc, neg_ℤ, ◌*ℤ◌, ◌<ℤ◌, ◌≤ℤ◌, Some, None, FitsSigned, w64, arith, to_z, of_z, ap, sym, ◌∙◌, ltb→lt, leb→le, ltb, Bool, true, false, not, T, subst}
use Rattle.std.specs.Int.{int_shr}
use Rattle.std.proofs.Math.Nat.{mul-le-mul_right, mul-le-mul_left, mod-eq_of_lt, div-le_self}
use Rattle.std.proofs.lemmas.Nat.{pow_pos, pow-add, mod_low}
use Rattle.std.proofs.lemmas.Nat.Bits.{ones_shr}
use Rattle.std.proofs.lemmas.Int.{to_z_pos, to_z-of_z}
use Rattle.std.proofs.lemmas.Bool.Decides.{nat_tests}
use borrow.Author.Tests.{ltb-false}
use lib.Signed.{lt_z, lt_z_yes, lt_z_no}
use Rattle.pst_num.specs.Shifts.{shifted_left}
use Rattle.pst_num.specs.Range.{in_range, least, greatest}
use Rattle.pst_num.proofs.RangeLemmas.{in_range_pos, in_range_minus, none_pos, none_negsuc}

none_minus : (m : ℕ) → 2 ^ 63 < m → in_range (neg_ℤ (pos m)) ≡ None
none_minus zero h = absurd (omega arith)
none_minus (suc k) h = none_negsuc k (omega arith)

-- 2^63 - 1 shifted to the right by n
largest_shifted : (n : ℕ) → n < 64 → ((2 ^ 63 - 1) / 2 ^ n ≡ 2 ^ (63 - n) - 1) × (2 ^ (63 - n) * 2 ^ n ≡ 2 ^ 63)
largest_shifted n h =
    let e : 63 - n + n ≡ 63 = omega arith in
    (ones_shr 63 n (omega arith), sym (pow-add 2 (63 - n) n) ∙ ap (λ k. 2 ^ k) e)

above_pos : (x n : ℕ) → n < 64 → (2 ^ 63 - 1) / 2 ^ n < x → 2 ^ 63 ≤ x * 2 ^ n
above_pos x n k h =
    let e = largest_shifted n k in
    let p : 2 ^ (63 - n) ≤ x = omega (arith, e.0) in
    omega (arith, e.1, mul-le-mul_right (2 ^ n) p)

within_negsuc : (x n : ℕ) → n < 64 → x ≤ (2 ^ 63 - 1) / 2 ^ n → suc x * 2 ^ n ≤ 2 ^ 63
within_negsuc x n k h =
    let e = largest_shifted n k in
    let power = pow_pos (63 - n) in
    let p : suc x ≤ 2 ^ (63 - n) = omega (arith, e.0, power) in
    omega (arith, e.1, mul-le-mul_right (2 ^ n) p)

within_pos : (x n : ℕ) → n < 64 → x ≤ (2 ^ 63 - 1) / 2 ^ n → x * 2 ^ n < 2 ^ 63
within_pos x n k h = omega (arith, within_negsuc x n k h, pow_pos n)

-- what is left of a number shifted to the left in 64 bits, where the exact number is a value
wrapped_pos : (x n : ℕ) → x * 2 ^ n < 2 ^ 63 → to_z w64 (x * 2 ^ n % 2 ^ 64) ≡ pos (x * 2 ^ n)
wrapped_pos x n h = let k : x * 2 ^ n < 2 ^ 64 = omega arith in rw mod-eq_of_lt (to_z_pos w64 (x * 2 ^ n) h)

pub none_above : (a : ℤ) (n : ℕ) → n < 64 → int_shr greatest n <ℤ a → in_range (a *ℤ pos (2 ^ n)) ≡ None
none_above (pos x) n k h = none_pos (x * 2 ^ n) (above_pos x n k (ltb→lt _ _ h.lt))
none_above (negsuc x) n k h = absurd h.lt

pub none_below : (a : ℤ) (n : ℕ) → n < 64 → a <ℤ int_shr least n → in_range (a *ℤ pos (2 ^ n)) ≡ None
none_below (pos x) n k h = absurd h.lt
none_below (negsuc x) n k h = none_minus (suc x * 2 ^ n) (omega (arith, above_pos x n k (ltb→lt _ _ h.lt), pow_pos n))

to_z_minus : (m : ℕ) → 0 < m → m ≤ 2 ^ 63 → to_z w64 (2 ^ 64 - m) ≡ neg_ℤ (pos m)
to_z_minus zero h k = absurd (omega arith)
to_z_minus (suc n) h k =
    let e : 2 ^ 64 - suc (2 ^ 64 - suc n) ≡ n = omega arith in
    let f : ltb (2 ^ 64 - suc n) (2 ^ 63) ≡ false = grind (arith, nat_tests) in
    rw f (ap negsuc e)

wrapped_minus : (x p : ℕ) → 0 < p → suc x * p ≤ 2 ^ 63 → (2 ^ 64 - suc x) * p % 2 ^ 64 ≡ 2 ^ 64 - suc x * p
wrapped_minus x p h k =
    let y = 2 ^ 64 - suc x in
    let small : suc x ≤ 2 ^ 63 = omega (arith, mul-le-mul_left (suc x) h) in
    let whole : y + suc x ≡ 2 ^ 64 = omega arith in
    let product : y * p + suc x * p ≡ 2 ^ 64 * p = omega (arith, ap (λ v. v * p) whole) in
    let split : y * p ≡ (p - 1) * 2 ^ 64 + (2 ^ 64 - suc x * p) = omega arith in
    rw split (mod_low (p - 1) 64 (2 ^ 64 - suc x * p) (omega arith))

pub shifted_within : (a : ℤ) (n : ℕ) → n < 64 → int_shr least n ≤ℤ a → a ≤ℤ int_shr greatest n → Some (to_z w64 (of_z w64 a * 2 ^ n % 2 ^ 64)) ≡ in_range (a *ℤ pos (2 ^ n))
shifted_within (pos x) n k h h' =
    let small = within_pos x n k (leb→le _ _ h'.le) in
    ap Some (wrapped_pos x n small) ∙ sym (in_range_pos (x * 2 ^ n) small)
shifted_within (negsuc x) n k h h' =
    let small = within_negsuc x n k (leb→le _ _ h.le) in
    let above : 0 < suc x * 2 ^ n = omega (arith, pow_pos n) in
    ap (λ v. Some (to_z w64 v)) (wrapped_minus x (2 ^ n) (pow_pos n) small) ∙ ap Some (to_z_minus (suc x * 2 ^ n) above small) ∙ sym (in_range_minus (suc x * 2 ^ n) above small)

-- ---- the same, as the code's tests say it

smaller_quotient : (n : ℕ) → (2 ^ 63 - 1) / 2 ^ n < 2 ^ 63
smaller_quotient n = omega (arith, div-le_self (2 ^ 63 - 1) (2 ^ n))

least_shifted : (n : ℕ) → to_z w64 (2 ^ 64 - suc ((2 ^ 63 - 1) / 2 ^ n)) ≡ int_shr least n
least_shifted n = to_z_minus (suc ((2 ^ 63 - 1) / 2 ^ n)) (omega arith) (smaller_quotient n)

greatest_shifted : (n : ℕ) → to_z w64 ((2 ^ 63 - 1) / 2 ^ n) ≡ int_shr greatest n
greatest_shifted n = to_z_pos w64 ((2 ^ 63 - 1) / 2 ^ n) (smaller_quotient n)

below_by_test : (a b : ℤ) → lt_z a b ≡ true → a <ℤ b
below_by_test a b e = lt_z_yes (subst T (sym e) tt)

not_below_by_test : (a b : ℤ) → lt_z a b ≡ false → b ≤ℤ a
not_below_by_test a b e = lt_z_no (subst (λ (t : Bool). T (not t)) (sym e) tt)

counted : (a : ℤ) (n : ℕ) → n < 64 → shifted_left a (pos n) ≡ in_range (a *ℤ pos (2 ^ n))
counted a n k = grind (arith, nat_tests)

shl_none_below : (a : ℤ) (n : ℕ) → FitsSigned w64 a → n < 64 → lt_z (to_z w64 (of_z w64 a)) (to_z w64 (2 ^ 64 - suc ((2 ^ 63 - 1) / 2 ^ n))) ≡ true → shifted_left a (pos n) ≡ None
shl_none_below a n f k h =
    counted a n k ∙ none_below a n k (below_by_test a (int_shr least n) (simp (to_z-of_z w64 a f, least_shifted n) at h))

shl_none_above : (a : ℤ) (n : ℕ) → FitsSigned w64 a → n < 64 → lt_z (to_z w64 ((2 ^ 63 - 1) / 2 ^ n)) (to_z w64 (of_z w64 a)) ≡ true → shifted_left a (pos n) ≡ None
shl_none_above a n f k h =
    counted a n k ∙ none_above a n k (below_by_test (int_shr greatest n) a (simp (to_z-of_z w64 a f, greatest_shifted n) at h))

shl_some : (a : ℤ) (n : ℕ) → FitsSigned w64 a → n < 64 → lt_z (to_z w64 (of_z w64 a)) (to_z w64 (2 ^ 64 - suc ((2 ^ 63 - 1) / 2 ^ n))) ≡ false → lt_z (to_z w64 ((2 ^ 63 - 1) / 2 ^ n)) (to_z w64 (of_z w64 a)) ≡ false → Some (to_z w64 (of_z w64 a * 2 ^ n % 2 ^ 64)) ≡ shifted_left a (pos n)
shl_some a n f k l h =
    shifted_within a n k (not_below_by_test a (int_shr least n) (simp (to_z-of_z w64 a f, least_shifted n) at l)) (not_below_by_test (int_shr greatest n) a (simp (to_z-of_z w64 a f, greatest_shifted n) at h)) ∙ sym (counted a n k)

not_negative : (n : ℕ) → FitsSigned w64 (negsuc n) → lt_z (to_z w64 (of_z w64 (negsuc n))) (pos 0) ≡ false → ⊥
not_negative n g l = let k : lt_z (negsuc n) (pos 0) ≡ false = subst (λ z. lt_z z (pos 0) ≡ false) (to_z-of_z w64 (negsuc n) g) l in cc

at_most_63 : (n : ℕ) → FitsSigned w64 (pos n) → lt_z (pos 63) (to_z w64 (of_z w64 (pos n))) ≡ false → n < 64
at_most_63 n g h = omega (arith, ltb-false 63 n (subst (λ z. lt_z (pos 63) z ≡ false) (to_z-of_z w64 (pos n) g) h))

module _ (a : ℤ) where
  pub shl_below : (b : ℤ) → FitsSigned w64 a → FitsSigned w64 b → lt_z (to_z w64 (of_z w64 b)) (pos 0) ≡ false → lt_z (pos 63) (to_z w64 (of_z w64 b)) ≡ false → lt_z (to_z w64 (of_z w64 a)) (to_z w64 (2 ^ 64 - suc ((2 ^ 63 - 1) / 2 ^ of_z w64 b))) ≡ true → None ≡ shifted_left a b
  shl_below (pos n) f g l h t = sym (shl_none_below a n f (at_most_63 n g h) t)
  shl_below (negsuc n) f g l h t = absurd (not_negative n g l)

  pub shl_above : (b : ℤ) → FitsSigned w64 a → FitsSigned w64 b → lt_z (to_z w64 (of_z w64 b)) (pos 0) ≡ false → lt_z (pos 63) (to_z w64 (of_z w64 b)) ≡ false → lt_z (to_z w64 ((2 ^ 63 - 1) / 2 ^ of_z w64 b)) (to_z w64 (of_z w64 a)) ≡ true → None ≡ shifted_left a b
  shl_above (pos n) f g l h t = sym (shl_none_above a n f (at_most_63 n g h) t)
  shl_above (negsuc n) f g l h t = absurd (not_negative n g l)

  pub shl_within : (b : ℤ) → FitsSigned w64 a → FitsSigned w64 b → lt_z (to_z w64 (of_z w64 b)) (pos 0) ≡ false → lt_z (pos 63) (to_z w64 (of_z w64 b)) ≡ false → lt_z (to_z w64 (of_z w64 a)) (to_z w64 (2 ^ 64 - suc ((2 ^ 63 - 1) / 2 ^ of_z w64 b))) ≡ false → lt_z (to_z w64 ((2 ^ 63 - 1) / 2 ^ of_z w64 b)) (to_z w64 (of_z w64 a)) ≡ false → Some (to_z w64 (of_z w64 a * 2 ^ of_z w64 b % 2 ^ 64)) ≡ shifted_left a b
  shl_within (pos n) f g l h t t' = shl_some a n f (at_most_63 n g h) t t'
  shl_within (negsuc n) f g l h t t' = absurd (not_negative n g l)
