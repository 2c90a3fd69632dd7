-- Digits of a mask that stand side by side.
use Rattle.std.proofs.Common.{◌≡◌, ℕ, ◌+◌, ◌-◌, ◌*◌, ◌/◌, ◌%◌, ◌^◌, ◌<◌, ◌≤◌, ℤ, pos, negsuc, ◌+ℤ◌, ◌-ℤ◌, ◌*ℤ◌, ◌≤ℤ◌, ◌<ℤ◌, Option, Some, FitsSigned, w64, to_z, of_z, bit_and, arith, sym, ap, ap₂, subst, ◌∙◌}
use Rattle.std.proofs.lemmas.Int.{ints, to_z_pos, to_z-of_z}
use Rattle.std.proofs.lemmas.Nat.{and_le_l, pow_pos, pow-add, div-add-mod'}
use Rattle.std.proofs.lemmas.Nat.Bits.{and_high}
use Rattle.std.proofs.Math.Nat.{mod-lt, add-mul, mul_assoc, mul-lt-mul_of_pos_right}
use Rattle.std.proofs.Math.IntN.{zero-*ℤ}
use Rattle.pst_num.specs.Range.{greatest}
use Rattle.pst_num.specs.Arithmetic.{product_of, difference_of}
use Rattle.pst_num.specs.Bits.{bits_and}
use Rattle.pst_operands.specs.Residues.{IsResidue}
use Rattle.pst_operands.specs.Powers.{IsMask, IsField, IsRoundedDown, IsFieldOf}
use Rattle.pst_operands.proofs.Exactly.{exact}
use Rattle.pst_operands.proofs.Products.{up_left, weaker}
use Rattle.pst_operands.proofs.Residues.{not_earlier}
use Rattle.pst_operands.proofs.Shifted.{IsPower}

-- ---- the digits

some : (v z : ℤ) → (let s : Option ℤ = Some v in s ≡ Some z) → v ≡ z
some v z e = cc

minus_pos : (a b : ℕ) (z : ℤ) → b ≤ a → z ≡ pos a -ℤ pos b → z ≡ pos (a - b)
minus_pos a b z h e = omega (arith, ints)

least_power : (a b : ℕ) → 0 < a → b ≤ a * b
least_power a b h = mul_le b (a * b) a h
  where
    mul_le : (b c a : ℕ) → 0 < a → b ≤ a * b
    mul_le b c a h = grind (arith)

pub field_is : (y unit digits count modulus top mask : ℤ) → IsPower y unit → IsMask digits count → product_of count unit ≡ Some modulus → difference_of modulus unit ≡ Some top → top ≡ mask → IsField mask unit modulus
field_is y unit digits count modulus top mask u m e f is =
    let k = u.count in
    let n = m.0 in
    let whole : modulus ≡ pos (2 ^ (n + k)) = sym (exact (count *ℤ unit) modulus e) ∙ ap₂ ◌*ℤ◌ m.2 u.power ∙ ap pos (sym (pow-add 2 n k)) in
    let low : 2 ^ k ≤ 2 ^ (n + k) = subst (λ p. 2 ^ k ≤ p) (sym (pow-add 2 n k)) (least_power (2 ^ n) (2 ^ k) (pow_pos n)) in
    let rest : top ≡ pos (2 ^ (n + k)) -ℤ pos (2 ^ k) = sym (exact (modulus -ℤ unit) top f) ∙ ap₂ ◌-ℤ◌ whole u.power in
    record { place = k; count = n; mask_is = sym is ∙ minus_pos (2 ^ (n + k)) (2 ^ k) top low rest; unit_is = u.power; modulus_is = whole }

-- ---- what a number's digits are

natural : (m : ℕ) → pos 0 ≤ℤ pos m
natural m = omega (arith, ints)

less_than : (m k : ℕ) → m < k → pos m <ℤ pos k
less_than m k h = omega (arith, ints)

rest_is : (a b r : ℕ) → b + r ≡ a → pos a -ℤ pos b ≡ pos r
rest_is a b r e = omega (arith, ints)

no_more : (b : ℕ) → b + 0 ≡ b
no_more b = omega arith

parts_of : (q r n k d : ℕ) → q * n + r ≡ d → q * (n * k) + r * k ≡ d * k
parts_of q r n k d e = ap (λ x. x + r * k) (sym (mul_assoc q n k)) ∙ sym (add-mul (q * n) r k) ∙ ap (λ x. x * k) e

module _ (a n k : ℕ) where
  abbrev d : ℕ
  d = a / 2 ^ k

  abbrev v : ℕ
  v = (d % 2 ^ n) * 2 ^ k

  rounded : IsRoundedDown (pos (2 ^ k)) (pos a) (pos (d * 2 ^ k))
  rounded =
      let left = rest_is a (d * 2 ^ k) (a % 2 ^ k) (div-add-mod' a (2 ^ k)) in
      subst (IsResidue (pos (2 ^ k)) (pos a)) (sym left)
      (record { multiple = pos d; adds_up = ap pos (div-add-mod' a (2 ^ k)); from_zero = natural (a % 2 ^ k); below = less_than (a % 2 ^ k) (2 ^ k) (mod-lt a (pow_pos k)) })

  digits_left : IsResidue (pos (2 ^ (n + k))) (pos (d * 2 ^ k)) (pos v)
  digits_left =
      subst (λ m. IsResidue (pos m) (pos (d * 2 ^ k)) (pos v)) (sym (pow-add 2 n k))
      (record { multiple = pos (d / 2 ^ n); adds_up = ap pos (parts_of (d / 2 ^ n) (d % 2 ^ n) (2 ^ n) (2 ^ k) d (div-add-mod' d (2 ^ n))); from_zero = natural v; below = less_than v (2 ^ n * 2 ^ k) (mul-lt-mul_of_pos_right (mod-lt d (pow_pos n)) (pow_pos k)) })

  even : IsResidue (pos (2 ^ k)) (pos v) (pos 0)
  even = record { multiple = pos (d % 2 ^ n); adds_up = ap pos (no_more v); from_zero = natural 0; below = less_than 0 (2 ^ k) (pow_pos k) }

pub field_value : (x mask unit modulus z : ℤ) → IsField mask unit modulus → pos 0 ≤ℤ x → x ≤ℤ greatest → bits_and x mask ≡ Some z → IsFieldOf unit modulus x z
field_value (pos a) mask unit modulus z f h k e =
    let n = f.count in
    let p = f.place in
    let m = 2 ^ (n + p) - 2 ^ p in
    let with : bits_and (pos a) (pos m) ≡ Some z = subst (λ r. bits_and (pos a) r ≡ Some z) f.mask_is e in
    let same : bit_and a m ≡ v a n p = and_high a n p in
    let less : bit_and a m ≤ a = and_le_l a m in
    let small : v a n p < 2 ^ 63 = omega (arith, ints, same, less, k) in
    let is : z ≡ pos (v a n p) = sym (some (to_z w64 (bit_and a m)) z with) ∙ (ap (to_z w64) same ∙ to_z_pos w64 (v a n p) small) in
    subst (IsFieldOf unit modulus (pos a)) (sym is)
    (subst (λ u. IsFieldOf u modulus (pos a) (pos (v a n p))) (sym f.unit_is)
    (subst (λ u. IsFieldOf (pos (2 ^ p)) u (pos a) (pos (v a n p))) (sym f.modulus_is)
    (record { whole = pos (d a n p * 2 ^ p); rounded = rounded a n p; left = digits_left a n p; even = even a n p })))
field_value (negsuc a) mask unit modulus z f h k e = absurd (omega (arith, ints))

-- ---- numbers rounded down

whole_is : (p r x y : ℤ) → (p +ℤ r) ≡ x → r ≡ x -ℤ y → p ≡ y
whole_is p r x y e f = omega (arith, ints)

same_order : (p q x y : ℤ) → p ≤ℤ q → p ≡ x → q ≡ y → x ≤ℤ y
same_order p q x y h e f = omega (arith, ints)

module _ (m a b x y : ℤ) (g : pos 0 <ℤ m) (k : IsRoundedDown m a b) (d : IsRoundedDown m x y) where
  k_is : (k.multiple *ℤ m) ≡ b
  k_is = whole_is (k.multiple *ℤ m) (a -ℤ b) a b k.adds_up (itself (a -ℤ b))
    where
      itself : (r : ℤ) → r ≡ r
      itself r = omega (arith, ints)

  d_is : (d.multiple *ℤ m) ≡ y
  d_is = whole_is (d.multiple *ℤ m) (x -ℤ y) x y d.adds_up (itself (x -ℤ y))
    where
      itself : (r : ℤ) → r ≡ r
      itself r = omega (arith, ints)

  pub rounded_order : a ≤ℤ x → b ≤ℤ y
  rounded_order h = same_order (k.multiple *ℤ m) (d.multiple *ℤ m) b y (up_left k.multiple d.multiple m (not_earlier m a (a -ℤ b) x (x -ℤ y) g k d h) (weaker (pos 0) m g)) k_is d_is

nothing_rounded : (m : ℤ) → pos 0 <ℤ m → IsRoundedDown m (pos 0) (pos 0)
nothing_rounded m g = record { multiple = pos 0; adds_up = ap (λ v. v +ℤ pos 0) (zero-*ℤ m); from_zero = natural 0; below = g }

pub rounded_not_negative : (m x y : ℤ) → pos 0 <ℤ m → pos 0 ≤ℤ x → IsRoundedDown m x y → pos 0 ≤ℤ y
rounded_not_negative m x y g h d = rounded_order m (pos 0) (pos 0) x y g (nothing_rounded m g) d h

pub rounded_near : (m x y : ℤ) → IsRoundedDown m x y → (y ≤ℤ x) × (x <ℤ (y +ℤ m))
rounded_near m x y d = let a = d.from_zero in let b = d.below in (omega (arith, ints, a), omega (arith, ints, b))

-- ---- a number less what it leaves

pub rest_fits : (n r : ℤ) → FitsSigned w64 n → FitsSigned w64 r → pos 0 ≤ℤ n → pos 0 ≤ℤ r → FitsSigned w64 (n -ℤ r)
rest_fits n r f g h k = omega (arith, ints)

pub back_is : (n r : ℤ) → FitsSigned w64 n → FitsSigned w64 r → pos 0 ≤ℤ n → pos 0 ≤ℤ r → r ≡ n -ℤ to_z w64 (of_z w64 (n -ℤ r))
back_is n r f g h k = back n r ∙ ap (λ z. n -ℤ z) (sym (to_z-of_z w64 (n -ℤ r) (rest_fits n r f g h k)))
  where
    back : (n r : ℤ) → r ≡ n -ℤ (n -ℤ r)
    back n r = omega (arith, ints)
