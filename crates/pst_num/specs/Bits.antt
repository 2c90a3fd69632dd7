-- Operations on the 64 bits of values in two's complement. The library's words for two's complement are `int_bit_and`,
-- `int_bit_or`, `int_bit_xor` and `int_bit_not`, here at 64 bits; `AreTwosComplement` of `Laws` says what they do to each bit.
use Rattle.std.specs.Prelude.{ℕ, ◌%◌, ℤ, unsigned_abs, Option, Some}
use Rattle.std.specs.Int.{w64, int_bit_and, int_bit_or, int_bit_xor, int_bit_not, int_shr}

-- a & b
abbrev pub bits_and : ℤ → ℤ → Option ℤ
bits_and a b = Some (int_bit_and w64 a b)

-- a | b
abbrev pub bits_or : ℤ → ℤ → Option ℤ
bits_or a b = Some (int_bit_or w64 a b)

-- a ^ b
abbrev pub bits_xor : ℤ → ℤ → Option ℤ
bits_xor a b = Some (int_bit_xor w64 a b)

-- ~a
abbrev pub bits_not : ℤ → Option ℤ
bits_not a = Some (int_bit_not w64 a)

-- bit i of a number in two's complement: 1 where the number divided by 2^i and rounded down is odd, else 0
abbrev pub bit : ℤ → ℕ → ℕ
bit z i = unsigned_abs (int_shr z i) % 2
