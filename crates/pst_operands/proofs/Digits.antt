-- Operations on the bits of numbers that aren't negative, and -1 less a number.
use Rattle.std.proofs.Common.{◌≡◌, ℕ, suc, ◌+◌, ◌-◌, ◌*◌, ◌/◌, ◌%◌, ◌^◌, ◌<◌, ◌≤◌, ℤ, pos, negsuc, ◌+ℤ◌, ◌-ℤ◌, ◌≤ℤ◌, ◌<ℤ◌, Option, Some, w64, to_z, bit_and, bit_or, bit_xor, arith, sym, ap, subst, ◌∙◌}
use Rattle.std.specs.Int.{int_bit_not, cast_unsigned}
use Rattle.std.specs.Int.Bits.{or_add_and, xor_add_and}
use Rattle.std.proofs.lemmas.Int.{ints, to_z_pos}
use Rattle.std.proofs.lemmas.Nat.{and_comm, or_comm, xor_comm, and_le_l, and_le_r, le_or_l, or_lt, xor_lt, and_mask, pow_pos, div-add-mod'}
use Rattle.std.proofs.Math.Nat.{mod-lt}
use Rattle.std.proofs.Math.Facts.{to_z-neg}
use Rattle.pst_num.specs.Range.{least, greatest}
use Rattle.pst_num.specs.Bits.{bits_and, bits_or, bits_xor}
use Rattle.pst_operands.specs.Powers.{IsMask}
use Rattle.pst_operands.specs.Residues.{IsResidue}

some : (v z : ℤ) → (let s : Option ℤ = Some v in s ≡ Some z) → v ≡ z
some v z e = cc

-- ---- operands exchanged

pub and_turned : (x y z : ℤ) → bits_and x y ≡ Some z → bits_and y x ≡ Some z
and_turned x y z e = ap (λ n. Some (to_z w64 n)) (and_comm (cast_unsigned w64 y) (cast_unsigned w64 x)) ∙ e

pub or_turned : (x y z : ℤ) → bits_or x y ≡ Some z → bits_or y x ≡ Some z
or_turned x y z e = ap (λ n. Some (to_z w64 n)) (or_comm (cast_unsigned w64 y) (cast_unsigned w64 x)) ∙ e

pub xor_turned : (x y z : ℤ) → bits_xor x y ≡ Some z → bits_xor y x ≡ Some z
xor_turned x y z e = ap (λ n. Some (to_z w64 n)) (xor_comm (cast_unsigned w64 y) (cast_unsigned w64 x)) ∙ e

-- ---- some digits

pub and_at_most : (x y z : ℤ) → pos 0 ≤ℤ x → x ≤ℤ greatest → bits_and x y ≡ Some z → z ≤ℤ x
and_at_most (pos a) y z h k e =
    let n = bit_and a (cast_unsigned w64 y) in
    let less : n ≤ a = and_le_l a (cast_unsigned w64 y) in
    let small : n < 2 ^ 63 = omega (arith, ints, less, k) in
    let is : to_z w64 n ≡ pos n = to_z_pos w64 n small in
    let found : to_z w64 n ≡ z = some (to_z w64 n) z e in
    natural n a z (sym found ∙ is) less
  where
    natural : (n a : ℕ) (z : ℤ) → z ≡ pos n → n ≤ a → z ≤ℤ pos a
    natural n a z e h = omega (arith, ints)
and_at_most (negsuc a) y z h k e = absurd (omega (arith, ints))

pub mask_residue : (x mask modulus z : ℤ) → IsMask mask modulus → pos 0 ≤ℤ x → x ≤ℤ greatest → bits_and x mask ≡ Some z → IsResidue modulus x z
mask_residue (pos a) mask modulus z m h k e =
    let n = m.0 in
    let with : bits_and (pos a) (pos (2 ^ n - 1)) ≡ Some z = subst (λ v. bits_and (pos a) v ≡ Some z) m.1 e in
    let rest : a % 2 ^ n < 2 ^ n = mod-lt a (pow_pos n) in
    let whole = div-add-mod' a (2 ^ n) in
    let same : bit_and a (2 ^ n - 1) ≡ a % 2 ^ n = and_mask a n in
    let less : bit_and a (2 ^ n - 1) ≤ a = and_le_l a (2 ^ n - 1) in
    let small : a % 2 ^ n < 2 ^ 63 = omega (arith, ints, same, less, k) in
    let found : z ≡ pos (a % 2 ^ n) = sym (some (to_z w64 (bit_and a (2 ^ n - 1))) z with) ∙ (ap (to_z w64) same ∙ to_z_pos w64 (a % 2 ^ n) small) in
    subst (λ v. IsResidue modulus (pos a) v) (sym found)
    (subst (λ v. IsResidue v (pos a) (pos (a % 2 ^ n))) (sym m.2)
    (record { multiple = pos (a / 2 ^ n); adds_up = ap pos whole; from_zero = natural (a % 2 ^ n); below = less_than (a % 2 ^ n) (2 ^ n) rest }))
  where
    natural : (m : ℕ) → pos 0 ≤ℤ pos m
    natural m = omega (arith, ints)

    less_than : (m k : ℕ) → m < k → pos m <ℤ pos k
    less_than m k h = omega (arith, ints)
mask_residue (negsuc a) mask modulus z m h k e = absurd (omega (arith, ints))

-- ---- more digits, and turned ones

natural_or : (a b : ℕ) (z : ℤ) → a < 2 ^ 63 → b < 2 ^ 63 → bits_or (pos a) (pos b) ≡ Some z → z ≡ pos (bit_or a b)
natural_or a b z h k e = sym (some (to_z w64 (bit_or a b)) z e) ∙ to_z_pos w64 (bit_or a b) (or_lt 63 a b h k)

natural_xor : (a b : ℕ) (z : ℤ) → a < 2 ^ 63 → b < 2 ^ 63 → bits_xor (pos a) (pos b) ≡ Some z → z ≡ pos (bit_xor a b)
natural_xor a b z h k e = sym (some (to_z w64 (bit_xor a b)) z e) ∙ to_z_pos w64 (bit_xor a b) (xor_lt 63 a b h k)

in_sum : (n m a b : ℕ) (z : ℤ) → z ≡ pos n → n + m ≡ a + b → a ≤ n → (pos a ≤ℤ z) × ((z -ℤ pos b) ≤ℤ pos a)
in_sum n m a b z e f h = (omega (arith, ints), omega (arith, ints))

in_sums : (n m a b : ℕ) (z : ℤ) → z ≡ pos n → n + m * 2 ≡ a + b → m ≤ a → m ≤ b → ((z -ℤ pos b) ≤ℤ pos a) × (pos a ≤ℤ (z +ℤ pos b)) × ((pos b -ℤ z) ≤ℤ pos a)
in_sums n m a b z e f h k = (omega (arith, ints), omega (arith, ints), omega (arith, ints))

pub or_between : (x y z : ℤ) → pos 0 ≤ℤ x → x ≤ℤ greatest → pos 0 ≤ℤ y → y ≤ℤ greatest → bits_or x y ≡ Some z → (x ≤ℤ z) × ((z -ℤ y) ≤ℤ x)
or_between (pos a) (pos b) z h h' k k' e =
    in_sum (bit_or a b) (bit_and a b) a b z (natural_or a b z (omega (arith, ints, h')) (omega (arith, ints, k')) e) (or_add_and a b) (le_or_l a b)
or_between (negsuc a) y z h h' k k' e = absurd (omega (arith, ints))
or_between (pos a) (negsuc b) z h h' k k' e = absurd (omega (arith, ints))

pub xor_between : (x y z : ℤ) → pos 0 ≤ℤ x → x ≤ℤ greatest → pos 0 ≤ℤ y → y ≤ℤ greatest → bits_xor x y ≡ Some z → ((z -ℤ y) ≤ℤ x) × (x ≤ℤ (z +ℤ y)) × ((y -ℤ z) ≤ℤ x)
xor_between (pos a) (pos b) z h h' k k' e =
    in_sums (bit_xor a b) (bit_and a b) a b z (natural_xor a b z (omega (arith, ints, h')) (omega (arith, ints, k')) e) (xor_add_and a b) (and_le_l a b) (and_le_r a b)
xor_between (negsuc a) y z h h' k k' e = absurd (omega (arith, ints))
xor_between (pos a) (negsuc b) z h h' k k' e = absurd (omega (arith, ints))

-- ---- -1 less a number

minus_one_pos : (n : ℕ) → negsuc n ≡ negsuc 0 -ℤ pos n
minus_one_pos n = omega (arith, ints)

minus_one_negsuc : (n : ℕ) → pos n ≡ negsuc 0 -ℤ negsuc n
minus_one_negsuc n = omega (arith, ints)

pub not_is : (x : ℤ) → least ≤ℤ x → x ≤ℤ greatest → int_bit_not w64 x ≡ negsuc 0 -ℤ x
not_is (pos n) h k =
    let e : 2 ^ 64 - 1 - n ≡ 2 ^ 64 - suc n = omega arith in
    ap (to_z w64) e ∙ to_z-neg w64 n (omega (arith, ints, k)) ∙ minus_one_pos n
not_is (negsuc n) h k =
    let e : 2 ^ 64 - 1 - (2 ^ 64 - suc n) ≡ n = omega (arith, ints, h) in
    ap (to_z w64) e ∙ to_z_pos w64 n (omega (arith, ints, h)) ∙ minus_one_negsuc n
