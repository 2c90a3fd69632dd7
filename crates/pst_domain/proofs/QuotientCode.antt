-- What the code of a quotient computes, by the signs of the divisor's ends.
use Rattle.std.proofs.Common.{◌≡◌, ℤ, pos, negsuc, ◌<ℤ◌, ◌≤ℤ◌, int_div, true, false, int_lt, arith, refl, ap, ap₂, ◌∙◌}
use Rattle.std.specs.Int.{int_min, int_max}
use Rattle.std.proofs.lemmas.Int.{ints, clamps}
use Rattle.pst_expr.specs.declared.ranges.Span.{Span}
use Rattle.pst_domain.specs.Cut.{cut}
use Rattle.pst_domain.specs.Arithmetic.{quotient_span}

-- the quotients of the ends of a span by two numbers, joined by f
abbrev pub end_quotient : (ℤ → ℤ → ℤ) → Span → ℤ → ℤ → ℤ
end_quotient f s low high = f (f (f (int_div s.low low) (int_div s.low high)) (int_div s.high low)) (int_div s.high high)

pub by_negative : (s t : Span) → t.low <ℤ pos 0 → t.high ≤ℤ pos 0 → quotient_span s t ≡ cut (end_quotient int_min s t.low (int_min t.high (negsuc 0))) (end_quotient int_max s t.low (int_min t.high (negsuc 0)))
by_negative s t h k =
    let below : int_lt t.low (pos 0) ≡ true = grind (arith, ints) in
    let above : int_lt (pos 0) t.high ≡ false = grind (arith, ints) in
    rw (below, above) refl

pub by_positive : (s t : Span) → pos 0 ≤ℤ t.low → pos 0 <ℤ t.high → quotient_span s t ≡ cut (end_quotient int_min s (int_max t.low (pos 1)) t.high) (end_quotient int_max s (int_max t.low (pos 1)) t.high)
by_positive s t h k =
    let below : int_lt t.low (pos 0) ≡ false = grind (arith, ints) in
    let above : int_lt (pos 0) t.high ≡ true = grind (arith, ints) in
    rw (below, above) refl

min_assoc : (a b c : ℤ) → int_min (int_min a b) c ≡ int_min a (int_min b c)
min_assoc a b c = omega (arith, ints, clamps)

max_assoc : (a b c : ℤ) → int_max (int_max a b) c ≡ int_max a (int_max b c)
max_assoc a b c = omega (arith, ints, clamps)

four_more : (f : ℤ → ℤ → ℤ) → ((a b c : ℤ) → f (f a b) c ≡ f a (f b c)) → (n a b c d : ℤ) → f (f (f (f n a) b) c) d ≡ f n (f (f (f a b) c) d)
four_more f assoc n a b c d =
    ap (λ x. f (f x c) d) (assoc n a b) ∙ ap (λ x. f x d) (assoc n (f a b) c) ∙ assoc n (f (f a b) c) d

pub by_both : (s t : Span) → t.low <ℤ pos 0 → pos 0 <ℤ t.high → quotient_span s t ≡ cut (int_min (end_quotient int_min s t.low (negsuc 0)) (end_quotient int_min s (pos 1) t.high)) (int_max (end_quotient int_max s t.low (negsuc 0)) (end_quotient int_max s (pos 1) t.high))
by_both s t h k =
    let below : int_lt t.low (pos 0) ≡ true = grind (arith, ints) in
    let above : int_lt (pos 0) t.high ≡ true = grind (arith, ints) in
    let low : int_max t.low (pos 1) ≡ pos 1 = omega (arith, ints, clamps) in
    let high : int_min t.high (negsuc 0) ≡ negsuc 0 = omega (arith, ints, clamps) in
    rw (below, above, low, high)
    (ap₂ cut
    (four_more int_min min_assoc (end_quotient int_min s t.low (negsuc 0)) (int_div s.low (pos 1)) (int_div s.low t.high) (int_div s.high (pos 1)) (int_div s.high t.high))
    (four_more int_max max_assoc (end_quotient int_max s t.low (negsuc 0)) (int_div s.low (pos 1)) (int_div s.low t.high) (int_div s.high (pos 1)) (int_div s.high t.high)))
