-- Numbers that fit 128 bits with room to spare.
use Rattle.std.specs.Prelude.{◌^◌, ℤ, pos, negsuc, ◌≤ℤ◌}

-- at most 2^64 away from 0
abbrev pub IsSmall : ℤ → Type 0
IsSmall z = (negsuc (2 ^ 64) ≤ℤ z) × (z ≤ℤ pos (2 ^ 64))
