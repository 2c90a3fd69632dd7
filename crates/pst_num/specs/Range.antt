-- The values: whole numbers from -2^63 to 2^63 - 1.
use Rattle.std.specs.Prelude.{◌-◌, ◌^◌, ℤ, pos, negsuc, int_le, Bool, ◌&&◌, Option, Some, None, if◌then◌else◌}

-- -2^63
abbrev pub least : ℤ
least = negsuc (2 ^ 63 - 1)

-- 2^63 - 1
abbrev pub greatest : ℤ
greatest = pos (2 ^ 63 - 1)

-- z is a value
abbrev pub is_in_range : ℤ → Bool
is_in_range z = int_le least z && int_le z greatest

-- z, or nothing where z is no value
abbrev pub in_range : ℤ → Option ℤ
in_range z = if is_in_range z then Some z else None
