-- Shifts, which are nothing where the count is outside 0 to 63.
use Rattle.std.specs.Prelude.{◌^◌, ℤ, pos, negsuc, ◌*ℤ◌, Option, None, nat_lt, if◌then◌else◌}
use Rattle.std.specs.Int.{int_shr}
use Rattle.pst_num.specs.Range.{in_range}

-- a times 2^n
abbrev pub shifted_left : ℤ → ℤ → Option ℤ
shifted_left a (pos n) = if nat_lt n 64 then in_range (a *ℤ pos (2 ^ n)) else None
shifted_left a (negsuc _) = None

-- a divided by 2^n, rounded down
abbrev pub shifted_right : ℤ → ℤ → Option ℤ
shifted_right a (pos n) = if nat_lt n 64 then in_range (int_shr a n) else None
shifted_right a (negsuc _) = None
