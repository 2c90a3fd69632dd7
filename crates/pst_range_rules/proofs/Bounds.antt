-- The bounds of plain types.
use Rattle.std.proofs.Common.{◌≡◌, ℕ, ◌-◌, ◌^◌, ◌<◌, ◌≤◌, ℤ, pos, negsuc, neg_ℤ, ◌-ℤ◌, ◌≤ℤ◌, ◌<ℤ◌, arith, ap, ◌∙◌}
use Rattle.std.specs.Prelude.{Some}
use Rattle.std.specs.Option.{option_map}
use Rattle.std.specs.Int.{int_max, int_min}
use Rattle.std.proofs.lemmas.Int.{ints, clamps}
use Rattle.std.proofs.lemmas.Nat.{pow_pos}
use Rattle.std.proofs.Math.Pow.{pow_mono}
use Rattle.pst_num.specs.Range.{least, greatest}
use Rattle.pst_type_rules.specs.Domains.{span, signed_span, unsigned_span}
use Rattle.pst_range_rules.specs.Types.{clamped, signed_of, unsigned_of}

lowest : (n : ℕ) → 2 ^ 63 ≤ n → least ≡ int_max (neg_ℤ (pos n)) least
lowest n h = omega (arith, ints, clamps, h)

highest : (n : ℕ) → 2 ^ 63 ≤ n → greatest ≡ int_min (pos n -ℤ pos 1) greatest
highest n h = omega (arith, ints, clamps, h)

from_zero : pos 0 ≡ int_max (pos 0) least
from_zero = omega (arith, ints, clamps)

pub signed_wide : (w : ℤ) → pos 63 <ℤ w → Some (span least greatest) ≡ option_map clamped (signed_of w)
signed_wide (pos n) h =
    let wide : 63 ≤ n - 1 = omega (arith, ints, h) in
    let large : 2 ^ 63 ≤ 2 ^ (n - 1) = pow_mono wide in
    ap (λ (l : ℤ). Some (span l greatest)) (lowest (2 ^ (n - 1)) large) ∙ ap (λ (t : ℤ). Some (span (int_max (neg_ℤ (pos (2 ^ (n - 1)))) least) t)) (highest (2 ^ (n - 1)) large)
signed_wide (negsuc n) h = absurd (omega (arith, ints, h))

pub unsigned_wide : (w : ℤ) → pos 62 <ℤ w → Some (span (pos 0) greatest) ≡ option_map clamped (unsigned_of w)
unsigned_wide (pos n) h =
    let wide : 63 ≤ n = omega (arith, ints, h) in
    let large : 2 ^ 63 ≤ 2 ^ n = pow_mono wide in
    ap (λ (l : ℤ). Some (span l greatest)) from_zero ∙ ap (λ (t : ℤ). Some (span (int_max (pos 0) least) t)) (highest (2 ^ n) large)
unsigned_wide (negsuc n) h = absurd (omega (arith, ints, h))

-- ---- no plain type is without values

signed_some : (n : ℕ) → 0 < n → neg_ℤ (pos n) ≤ℤ (pos n -ℤ pos 1)
signed_some n h = omega (arith, ints, h)

unsigned_some : (n : ℕ) → 0 < n → pos 0 ≤ℤ (pos n -ℤ pos 1)
unsigned_some n h = omega (arith, ints, h)

pub signed_upright : (w : ℕ) → (signed_span w).low ≤ℤ (signed_span w).high
signed_upright w = signed_some (2 ^ (w - 1)) (pow_pos (w - 1))

pub unsigned_upright : (w : ℕ) → (unsigned_span w).low ≤ℤ (unsigned_span w).high
unsigned_upright w = unsigned_some (2 ^ w) (pow_pos w)
