-- Spans cut to the values, from -2^63 to 2^63 - 1.
use Rattle.std.specs.Prelude.{ℤ, int_le, List, [], ◌∷◌, Bool, Option, Some, None, option_and_then, fold, if◌then◌else◌}
use Rattle.std.specs.Int.{int_min, int_max}
use Rattle.std.specs.Ordering.{int_eq}
use Rattle.pst_num.specs.Range.{least, greatest}
use Rattle.pst_expr.specs.declared.ranges.Span.{Span}

-- the values from low to high; none where there is none
abbrev pub cut : ℤ → ℤ → Option Span
cut low high =
    if int_le (int_max low least) (int_min high greatest) then Some (record { low = int_max low least; high = int_min high greatest }) else None

abbrev pub cut_span : Option Span → Option Span
cut_span bound = option_and_then (λ s. cut s.low s.high) bound

-- the span of a single number
abbrev pub point : ℤ → Option Span
point n = cut n n

-- all values
abbrev pub whole : Option Span
whole = Some (record { low = least; high = greatest })

-- from the least to the greatest of some numbers
abbrev pub hull : List ℤ → Option Span
hull [] = None
hull (z ∷ zs) = cut (fold int_min z zs) (fold int_max z zs)

abbrev pub is_point : Span → Bool
is_point s = int_eq s.low s.high

-- an operation on two points: the span of what it gives, none where it gives nothing
abbrev pub at_points : (ℤ → ℤ → Option ℤ) → Span → Span → Option Span
at_points f s t = option_and_then point (f s.low t.low)
