-- Whether a number is a value, by its distance from 0.
use Rattle.std.proofs.Common.{◌≡◌, ℕ, zero, suc, ◌^◌, ◌<◌, ◌≤◌, ℤ, pos, negsuc, neg_ℤ, Some, None, FitsSigned, w64, arith}
use Rattle.std.proofs.lemmas.Bool.Decides.{nat_tests}
use Rattle.pst_num.specs.Range.{in_range}

pub in_range_pos : (n : ℕ) → n < 2 ^ 63 → in_range (pos n) ≡ Some (pos n)
in_range_pos n h = grind (arith, nat_tests)

pub in_range_negsuc : (n : ℕ) → n < 2 ^ 63 → in_range (negsuc n) ≡ Some (negsuc n)
in_range_negsuc n h = grind (arith, nat_tests)

pub none_pos : (n : ℕ) → 2 ^ 63 ≤ n → in_range (pos n) ≡ None
none_pos n h = grind (arith, nat_tests)

pub none_negsuc : (n : ℕ) → 2 ^ 63 ≤ n → in_range (negsuc n) ≡ None
none_negsuc n h = grind (arith, nat_tests)

pub in_range_fits : (z : ℤ) → FitsSigned w64 z → in_range z ≡ Some z
in_range_fits (pos n) h = in_range_pos n h.sfits
in_range_fits (negsuc n) h = in_range_negsuc n h.sfits

pub in_range_minus : (m : ℕ) → 0 < m → m ≤ 2 ^ 63 → in_range (neg_ℤ (pos m)) ≡ Some (neg_ℤ (pos m))
in_range_minus zero h k = absurd (omega arith)
in_range_minus (suc n) h k = in_range_negsuc n (omega arith)
