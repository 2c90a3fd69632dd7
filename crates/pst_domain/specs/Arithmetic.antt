-- Sums, products, quotients and remainders of spans.
use Rattle.std.specs.Prelude.{ℕ, ◌-◌, max, ℤ, pos, negsuc, ◌+ℤ◌, ◌-ℤ◌, ◌*ℤ◌, neg_ℤ, int_div, int_lt, unsigned_abs, List, [], ◌∷◌, ◌++◌, ◌&&◌, Option, None, flat_map, if◌then◌else◌}
use Rattle.std.specs.Int.{int_min, int_max}
use Rattle.pst_num.specs.Arithmetic.{remainder_of}
use Rattle.pst_expr.specs.declared.ranges.Span.{Span}
use Rattle.pst_domain.specs.Cut.{cut, hull, is_point, at_points}
use Rattle.pst_domain.specs.Truth.{is_zero}

-- -s
abbrev pub negation_span : Span → Option Span
negation_span s = cut (neg_ℤ s.high) (neg_ℤ s.low)

-- ~s, where ~x is -1 - x
abbrev pub inverse_span : Span → Option Span
inverse_span s = cut (negsuc 0 -ℤ s.high) (negsuc 0 -ℤ s.low)

-- s + t
abbrev pub sum_span : Span → Span → Option Span
sum_span s t = cut (s.low +ℤ t.low) (s.high +ℤ t.high)

-- s - t
abbrev pub difference_span : Span → Span → Option Span
difference_span s t = cut (s.low -ℤ t.high) (s.high -ℤ t.low)

-- s * t, between the products of ends
abbrev pub product_span : Span → Span → Option Span
product_span s t = hull ((s.low *ℤ t.low) ∷ (s.low *ℤ t.high) ∷ (s.high *ℤ t.low) ∷ (s.high *ℤ t.high) ∷ [])

-- the negative and the positive numbers of a span
abbrev pub negative_part : Span → List Span
negative_part t = if int_lt t.low (pos 0) then record { low = t.low; high = int_min t.high (negsuc 0) } ∷ [] else []

abbrev pub positive_part : Span → List Span
positive_part t = if int_lt (pos 0) t.high then record { low = int_max t.low (pos 1); high = t.high } ∷ [] else []

-- the quotients of ends
abbrev pub end_quotients : Span → Span → List ℤ
end_quotients s part = int_div s.low part.low ∷ int_div s.low part.high ∷ int_div s.high part.low ∷ int_div s.high part.high ∷ []

-- s / t, between the quotients of the ends of s by those of the parts of t without 0
abbrev pub quotient_span : Span → Span → Option Span
quotient_span s t = hull (flat_map (end_quotients s) (negative_part t ++ positive_part t))

-- one less than the greatest distance from 0 in a span
abbrev pub greatest_remainder : Span → ℕ
greatest_remainder t = max (unsigned_abs t.low) (unsigned_abs t.high) - 1

-- the least and the greatest remainder where the remainders lie between -m and m
abbrev pub least_remainder : Span → ℤ → ℤ
least_remainder s m = if int_lt s.low (pos 0) then int_max s.low (neg_ℤ m) else pos 0

abbrev pub most_remainder : Span → ℤ → ℤ
most_remainder s m = if int_lt (pos 0) s.high then int_min s.high m else pos 0

-- s % t
abbrev pub remainder_span : Span → Span → Option Span
remainder_span s t =
    if is_zero t then None
    else (if is_point s && is_point t then at_points remainder_of s t
    else cut (least_remainder s (pos (greatest_remainder t))) (most_remainder s (pos (greatest_remainder t))))
