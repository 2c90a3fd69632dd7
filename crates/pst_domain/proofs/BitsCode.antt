-- The greatest number with as many binary digits as another, by a shift.
use Rattle.std.proofs.Common.{◌≡◌, ⊎_elim, ℕ, zero, suc, ◌+◌, ◌-◌, ◌*◌, ◌/◌, ◌^◌, ◌<◌, ◌≤◌, ℤ, pos, negsuc, FitsSigned, w64, to_z, of_z, Bool, true, false, arith, refl, sym, ap, subst, ◌∙◌}
use Rattle.std.specs.Int.{leading_zeros}
use Rattle.std.proofs.lemmas.Bool.{cases_lt}
use Rattle.std.proofs.lemmas.Int.{to_z_pos, to_z-of_z}
use Rattle.std.proofs.lemmas.Nat.{leading_top, leading_length, pow_pos}
use Rattle.std.proofs.lemmas.Nat.Bits.{ones_shr}
use Rattle.std.proofs.Math.Pow.{pow_mono}
use Rattle.std.proofs.Math.Nat.{pow-suc, div-le_self}
use borrow.Author.Tests.{leb-true, leb-false}
use lib.Signed.{le_z}
use Rattle.pst_domain.specs.Bits.{ones_of, binary_digits}

-- how many binary digits a number has
pub digits_are : (n : ℕ) → n < 2 ^ 64 → (m : ℕ) × (binary_digits n ≡ m) × (n < 2 ^ m) × (2 ^ m ≤ 2 * n + 1)
digits_are n h = let l = leading_length 64 n h in (l.0, omega (arith, l.1), l.2, l.3)

no_power : (m : ℕ) → 2 ^ m ≤ 1 → m ≡ 0
no_power zero h = refl
no_power (suc m) h = absurd (omega (arith, pow-suc 2 m, pow_pos m))

no_digits : binary_digits 0 ≡ 0
no_digits = let d = digits_are 0 (omega arith) in d.1 ∙ no_power d.0 (omega (arith, d.3))

-- 2^j is at most n, and n is below 2^63
below_63 : (j n : ℕ) → 2 ^ j ≤ n → n < 2 ^ 63 → j < 63
below_63 j n h k = ⊎_elim (λ l. l) (λ m. let p : 2 ^ 63 ≤ 2 ^ j = pow_mono m in absurd (omega arith)) (cases_lt j 63)

pub some_zeros : (n : ℕ) → 0 < n → n < 2 ^ 63 → (1 ≤ leading_zeros w64 n) × (leading_zeros w64 n ≤ 63)
some_zeros n h k =
    let top = leading_top 64 n h (omega arith) in
    let low = below_63 top.0 n top.2 k in
    (omega (arith, top.1), omega (arith, top.1))

pub ones_by_shift : (n : ℕ) → 0 < n → n < 2 ^ 63 → (2 ^ 63 - 1) / 2 ^ (leading_zeros w64 n - 1) ≡ 2 ^ binary_digits n - 1
ones_by_shift n h k =
    let zeros = some_zeros n h k in
    let e : 63 - (leading_zeros w64 n - 1) ≡ binary_digits n = omega arith in
    ones_shr 63 (leading_zeros w64 n - 1) (omega arith) ∙ ap (λ d. 2 ^ d - 1) e

-- ---- the same, as the code's tests say it

plain : (z : ℤ) (b : Bool) → FitsSigned w64 z → le_z (to_z w64 (of_z w64 z)) (pos 0) ≡ b → le_z z (pos 0) ≡ b
plain z b f t = subst (λ x. le_z x (pos 0) ≡ b) (to_z-of_z w64 z f) t

above_zero : (n : ℕ) → FitsSigned w64 (pos n) → le_z (to_z w64 (of_z w64 (pos n))) (pos 0) ≡ false → 0 < n
above_zero n f t = leb-false n 0 (plain (pos n) false f t)

not_negative : (n : ℕ) → FitsSigned w64 (negsuc n) → le_z (to_z w64 (of_z w64 (negsuc n))) (pos 0) ≡ false → ⊥
not_negative n f t = let k : le_z (negsuc n) (pos 0) ≡ false = plain (negsuc n) false f t in cc

count_is : (z : ℤ) (count : ℕ) → FitsSigned w64 z → count ≡ leading_zeros w64 (of_z w64 (to_z w64 (of_z w64 z))) → count ≡ leading_zeros w64 (of_z w64 z)
count_is z count f e = e ∙ ap (λ x. leading_zeros w64 (of_z w64 x)) (to_z-of_z w64 z f)

pub zeros_of : (z : ℤ) (count : ℕ) → FitsSigned w64 z → le_z (to_z w64 (of_z w64 z)) (pos 0) ≡ false → count ≡ leading_zeros w64 (of_z w64 (to_z w64 (of_z w64 z))) → 1 ≤ count
zeros_of (pos n) count f t e = omega (arith, count_is (pos n) count f e, (some_zeros n (above_zero n f t) f.sfits).0)
zeros_of (negsuc n) count f t e = absurd (not_negative n f t)

pub nothing_above : (z : ℤ) → FitsSigned w64 z → le_z (to_z w64 (of_z w64 z)) (pos 0) ≡ true → pos 0 ≡ ones_of z
nothing_above (pos n) f t =
    let none : n ≡ 0 = omega (arith, leb-true n 0 (plain (pos n) true f t)) in
    sym (ap (λ k. pos (2 ^ binary_digits k - 1)) none ∙ ap (λ d. pos (2 ^ d - 1)) no_digits)
nothing_above (negsuc n) f t = refl

pub ones_of_is : (z : ℤ) (count : ℕ) → FitsSigned w64 z → le_z (to_z w64 (of_z w64 z)) (pos 0) ≡ false → count ≡ leading_zeros w64 (of_z w64 (to_z w64 (of_z w64 z))) → to_z w64 ((2 ^ 63 - 1) / 2 ^ (count - 1)) ≡ ones_of z
ones_of_is (pos n) count f t e =
    let is = count_is (pos n) count f e in
    let small : (2 ^ 63 - 1) / 2 ^ (count - 1) < 2 ^ 63 = omega (arith, div-le_self (2 ^ 63 - 1) (2 ^ (count - 1))) in
    to_z_pos w64 ((2 ^ 63 - 1) / 2 ^ (count - 1)) small ∙ ap (λ k. pos ((2 ^ 63 - 1) / 2 ^ (k - 1))) is ∙ ap pos (ones_by_shift n (above_zero n f t) f.sfits)
ones_of_is (negsuc n) count f t e = absurd (not_negative n f t)
