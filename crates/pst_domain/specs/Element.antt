-- The span of an element of an array.
use Rattle.std.specs.Prelude.{ℕ, ◌+◌, ◌-◌, pos, ◌-ℤ◌, int_le, unsigned_abs, List, map, take, drop, Option, Some, None, fold, if◌then◌else◌}
use Rattle.std.specs.Int.{int_min, int_max}
use Rattle.pst_expr.specs.declared.ranges.Span.{Span}
use Rattle.pst_domain.specs.Cut.{cut_span}

-- from the lesser low to the greater high of those that there are
abbrev pub joined : Option Span → Option Span → Option Span
joined None b = b
joined (Some s) None = Some s
joined (Some s) (Some t) = Some (record { low = int_min s.low t.low; high = int_max s.high t.high })

abbrev pub joined_all : List (Option Span) → Option Span
joined_all bounds = fold joined None bounds

-- the bounds of the elements of an array at the indices from low to high
abbrev pub elements : List (Option Span) → ℕ → ℕ → ℕ → List (Option Span)
elements bounds first low high = take (high + 1 - low) (drop (first + low) bounds)

-- the span of an element, where s is the span of the index
abbrev pub element_span : List (Option Span) → ℕ → ℕ → Span → Option Span
element_span bounds first count s =
    let low = int_max s.low (pos 0) in
    let high = int_min s.high (pos count -ℤ pos 1) in
    if int_le low high then joined_all (map cut_span (elements bounds first (unsigned_abs low) (unsigned_abs high))) else None
