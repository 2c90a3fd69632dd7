-- What the words for division, shifts and two's complement mean, in terms of sums, products and single bits.
use Rattle.std.specs.Prelude.{ℕ, ◌≡◌, ◌≢◌, ◌+◌, ◌-◌, ◌%◌, ◌^◌, ◌<◌, min, max, ℤ, pos, ◌+ℤ◌, ◌*ℤ◌, ◌≤ℤ◌, ◌<ℤ◌, unsigned_abs, int_div, int_rem, IsTrue}
use Rattle.std.specs.Int.{w64, int_bit_and, int_bit_or, int_bit_xor, int_bit_not, int_shr}
use Rattle.pst_num.specs.Range.{is_in_range}
use Rattle.pst_num.specs.Bits.{bit}

-- the remainder r of a by b fills the quotient up to a, is nearer to 0 than b, and isn't on the other side of 0 than a
pub record IsTruncated (a b : ℤ) : Type 0 where
  pub adds_up : int_div a b *ℤ b +ℤ int_rem a b ≡ a
  pub small : unsigned_abs (int_rem a b) < unsigned_abs b
  pub not_below : pos 0 ≤ℤ a → pos 0 ≤ℤ int_rem a b
  pub not_above : a ≤ℤ pos 0 → int_rem a b ≤ℤ pos 0

-- division rounds towards 0
abbrev pub RoundsTowardsZero : Type 0
RoundsTowardsZero = (a b : ℤ) → b ≢ pos 0 → IsTruncated a b

-- a shift to the right rounds down: the result is the greatest number that times 2^n is at most a
pub record IsFloor (a : ℤ) (n : ℕ) : Type 0 where
  pub at_most : (int_shr a n *ℤ pos (2 ^ n)) ≤ℤ a
  pub next_is_above : a <ℤ ((int_shr a n +ℤ pos 1) *ℤ pos (2 ^ n))

abbrev pub RoundsDown : Type 0
RoundsDown = (a : ℤ) (n : ℕ) → IsFloor a n

-- the four operations on two values give a value, of which bit i depends on bit i of each operand alone
pub record ActsOnEachBit (a b : ℤ) (i : ℕ) : Type 0 where
  pub of_and : bit (int_bit_and w64 a b) i ≡ min (bit a i) (bit b i)
  pub of_or : bit (int_bit_or w64 a b) i ≡ max (bit a i) (bit b i)
  pub of_xor : bit (int_bit_xor w64 a b) i ≡ (bit a i + bit b i) % 2
  pub of_not : bit (int_bit_not w64 a) i ≡ 1 - bit a i

pub record GivesValues (a b : ℤ) : Type 0 where
  pub of_and : IsTrue (is_in_range (int_bit_and w64 a b))
  pub of_or : IsTrue (is_in_range (int_bit_or w64 a b))
  pub of_xor : IsTrue (is_in_range (int_bit_xor w64 a b))
  pub of_not : IsTrue (is_in_range (int_bit_not w64 a))

abbrev pub ActOnBits : Type 0
ActOnBits = (a b : ℤ) → IsTrue (is_in_range a) → IsTrue (is_in_range b) → GivesValues a b × ((i : ℕ) → i < 64 → ActsOnEachBit a b i)

-- 64 bits determine a value
abbrev pub BitsDetermine : Type 0
BitsDetermine = (a b : ℤ) → IsTrue (is_in_range a) → IsTrue (is_in_range b) → ((i : ℕ) → i < 64 → bit a i ≡ bit b i) → a ≡ b
