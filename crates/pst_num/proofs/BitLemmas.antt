-- Each operation on bits acts on the 64 bits one by one.
use Rattle.std.proofs.Common.{◌≡◌, ℕ, suc, ◌+◌, ◌-◌, ◌%◌, ◌^◌, ◌<◌, min, max, ℤ, pos, negsuc, FitsSigned, w64, arith, refl, ap, ap₂, sym, ◌∙◌, IsTrue, bit_and, bit_or, bit_xor}
use Rattle.std.specs.Int.{bit_at, bit_not, cast_signed, cast_unsigned, int_bit_and, int_bit_or, int_bit_xor, int_bit_not}
use Rattle.std.proofs.lemmas.Nat.{and_le_l, or_lt, xor_lt}
use Rattle.std.proofs.lemmas.Nat.Bits.{bit_at_and, bit_at_or, bit_at_xor, bit_at_not, same_from_bits_below}
use Rattle.std.proofs.lemmas.Int.{of_z-to_z, to_z-of_z}
use Rattle.std.proofs.lemmas.Bool.Decides.{nat_tests}
use Rattle.std.proofs.Math.Facts.{sfits_to_z}
use Rattle.pst_num.specs.Range.{is_in_range}
use Rattle.pst_num.specs.Bits.{bit}
use Rattle.pst_num.specs.Laws.{GivesValues, ActsOnEachBit, ActOnBits, BitsDetermine}

fits : (z : ℤ) → IsTrue (is_in_range z) → FitsSigned w64 z
fits (pos n) h = record { sfits = grind (arith, nat_tests) }
fits (negsuc n) h = record { sfits = grind (arith, nat_tests) }

in_range : (z : ℤ) → FitsSigned w64 z → IsTrue (is_in_range z)
in_range (pos n) h = let k : n < 2 ^ 63 = h.sfits in grind (arith, nat_tests)
in_range (negsuc n) h = let k : n < 2 ^ 63 = h.sfits in grind (arith, nat_tests)

cast_small : (z : ℤ) → FitsSigned w64 z → cast_unsigned w64 z < 2 ^ 64
cast_small (pos n) h = omega (arith, h.sfits)
cast_small (negsuc n) h = omega arith

signed_fits : (n : ℕ) → n < 2 ^ 64 → FitsSigned w64 (cast_signed w64 n)
signed_fits n h = sfits_to_z (record { fits = h })

below_all : (n : ℕ) → 2 ^ 64 - suc n ≡ 2 ^ 64 - 1 - n
below_all n = omega arith

-- the bits of a value are those of its 64 bits read without a sign
bit_is : (z : ℤ) (i : ℕ) → FitsSigned w64 z → i < 64 → bit z i ≡ bit_at (cast_unsigned w64 z) i
bit_is (pos n) i h k = refl
bit_is (negsuc n) i h k =
    let flipped : bit_at (2 ^ 64 - suc n) i ≡ 1 - bit_at n i =
    ap (λ m. bit_at m i) (below_all n) ∙ bit_at_not w64 n i (omega (arith, h.sfits)) k in
    omega (arith, flipped)

bit_signed : (n i : ℕ) → n < 2 ^ 64 → i < 64 → bit (cast_signed w64 n) i ≡ bit_at n i
bit_signed n i h k = bit_is (cast_signed w64 n) i (signed_fits n h) k ∙ ap (λ m. bit_at m i) (of_z-to_z w64 n h)

module _ (a b : ℤ) (h : FitsSigned w64 a) (k : FitsSigned w64 b) where
  and_small : bit_and (cast_unsigned w64 a) (cast_unsigned w64 b) < 2 ^ 64
  and_small = omega (arith, and_le_l (cast_unsigned w64 a) (cast_unsigned w64 b), cast_small a h)

  or_small : bit_or (cast_unsigned w64 a) (cast_unsigned w64 b) < 2 ^ 64
  or_small = or_lt 64 (cast_unsigned w64 a) (cast_unsigned w64 b) (cast_small a h) (cast_small b k)

  xor_small : bit_xor (cast_unsigned w64 a) (cast_unsigned w64 b) < 2 ^ 64
  xor_small = xor_lt 64 (cast_unsigned w64 a) (cast_unsigned w64 b) (cast_small a h) (cast_small b k)

  not_small : bit_not w64 (cast_unsigned w64 a) < 2 ^ 64
  not_small = omega arith

  gives_values : GivesValues a b
  gives_values = record {
    of_and = in_range (int_bit_and w64 a b) (signed_fits _ and_small);
    of_or = in_range (int_bit_or w64 a b) (signed_fits _ or_small);
    of_xor = in_range (int_bit_xor w64 a b) (signed_fits _ xor_small);
    of_not = in_range (int_bit_not w64 a) (signed_fits _ not_small);
  }

  acts_on_each : (i : ℕ) → i < 64 → ActsOnEachBit a b i
  acts_on_each i l =
      let ea = bit_is a i h l in
      let eb = bit_is b i k l in
      let m = cast_unsigned w64 a in
      let n = cast_unsigned w64 b in
      record {
        of_and = bit_signed (bit_and m n) i and_small l ∙ bit_at_and m n i ∙ sym (ap₂ min ea eb);
        of_or = bit_signed (bit_or m n) i or_small l ∙ bit_at_or m n i ∙ sym (ap₂ max ea eb);
        of_xor = bit_signed (bit_xor m n) i xor_small l ∙ bit_at_xor m n i ∙ sym (ap₂ (λ x y. (x + y) % 2) ea eb);
        of_not = bit_signed (bit_not w64 m) i not_small l ∙ bit_at_not w64 m i (cast_small a h) l ∙ ap (λ x. 1 - x) (sym ea);
      }

pub act_on_bits : ActOnBits
act_on_bits a b h k = (gives_values a b (fits a h) (fits b k), acts_on_each a b (fits a h) (fits b k))

pub bits_determine : BitsDetermine
bits_determine a b h k e =
    let f = fits a h in
    let g = fits b k in
    let same = same_from_bits_below 64 (cast_unsigned w64 a) (cast_unsigned w64 b) (cast_small a f) (cast_small b g) (λ i l. sym (bit_is a i f l) ∙ e i l ∙ bit_is b i g l) in
    sym (to_z-of_z w64 a f) ∙ ap (cast_signed w64) same ∙ to_z-of_z w64 b g
