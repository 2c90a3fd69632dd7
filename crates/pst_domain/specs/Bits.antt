-- Operations on the bits of spans.
use Rattle.std.specs.Prelude.{ℕ, ◌-◌, ◌^◌, ℤ, pos, negsuc, int_le, ◌&&◌, Option, Some, if◌then◌else◌}
use Rattle.std.specs.Int.{w64, int_min, int_max, leading_zeros}
use Rattle.pst_num.specs.Range.{least, greatest}
use Rattle.pst_num.specs.Bits.{bits_and}
use Rattle.pst_expr.specs.declared.ranges.Span.{Span}
use Rattle.pst_domain.specs.Cut.{is_point, at_points}

-- how many binary digits a number below 2^64 has
abbrev pub binary_digits : ℕ → ℕ
binary_digits n = 64 - leading_zeros w64 n

-- from 0 to a bound where neither span has a negative number, else all values
abbrev pub bits_within : Span → Span → ℤ → Span
bits_within s t bound =
    if int_le (pos 0) s.low && int_le (pos 0) t.low then record { low = pos 0; high = bound } else record { low = least; high = greatest }

-- two points give the span of the value
abbrev pub bits_span : (ℤ → ℤ → Option ℤ) → (Span → Span → ℤ) → Span → Span → Option Span
bits_span f bound s t = if is_point s && is_point t then at_points f s t else Some (bits_within s t (bound s t))

-- s & t goes up to the lesser high
abbrev pub and_span : Span → Span → Option Span
and_span s t = bits_span bits_and (λ a b. int_min a.high b.high) s t

-- the greatest number with as many binary digits as a number has, 0 where it is negative
abbrev pub ones_of : ℤ → ℤ
ones_of (pos n) = pos (2 ^ binary_digits n - 1)
ones_of (negsuc _) = pos 0

-- s | t and s ^ t go up to the greatest number with as many binary digits as the greater high
abbrev pub all_ones : Span → Span → ℤ
all_ones s t = ones_of (int_max s.high t.high)

abbrev pub or_span : (ℤ → ℤ → Option ℤ) → Span → Span → Option Span
or_span f s t = bits_span f all_ones s t
