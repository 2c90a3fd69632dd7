-- Each value of a domain has a number in it.
use Rattle.std.proofs.Common.{◌≡◌, ℕ, zero, suc, ◌+◌, ◌<◌, ℤ, pos, ◌+ℤ◌, ◌-ℤ◌, nat_abs, List, [], ◌∷◌, length, get_or, Contains, Some, refl, sym, ap, ap₂, ◌∙◌, subst, arith}
use Rattle.std.specs.Prelude.{sum_by}
use Rattle.std.proofs.lemmas.Int.{ints}
use Rattle.std.proofs.lemmas.List.Concat.{length-flat_map}
use Rattle.std.proofs.lemmas.List.Elements.{Contains-append_left, Contains-append_right}
use Rattle.std.proofs.lemmas.List.Sums.{sum_by-cons}
use Rattle.std.proofs.lemmas.Option.{get_or_from_slice_get, slice_get-get_or}
use Rattle.pst_expr.specs.declared.ranges.Span.{Span}
use Rattle.pst_expr.specs.Spans.{IsInSpan, IsInSpans, count_of, size_of, numbers_from, values}

length_numbers : (z : ℤ) (n : ℕ) → length (numbers_from z n) ≡ n
unfolding numbers_from
length_numbers z zero = refl
length_numbers z (suc n) = ap suc (length_numbers (z +ℤ pos 1) n)

at_number : (z : ℤ) (n j : ℕ) (d : ℤ) → j < n → get_or (numbers_from z n) j d ≡ z +ℤ pos j
unfolding numbers_from
at_number z zero j d h = absurd (omega arith)
at_number z (suc n) zero d h = omega (arith, ints)
at_number z (suc n) (suc j) d h = at_number (z +ℤ pos 1) n j d (omega arith) ∙ omega (arith, ints)

sizes_agree : (spans : List Span) → sum_by (λ (s : Span). length (numbers_from s.low (count_of s))) spans ≡ size_of spans
sizes_agree [] = refl
sizes_agree (s ∷ rest) =
    sum_by-cons (λ (s : Span). length (numbers_from s.low (count_of s))) s rest ∙ ap₂ ◌+◌ (length_numbers s.low (count_of s)) (sizes_agree rest) ∙ sym (sum_by-cons count_of s rest)

length_values : (spans : List Span) → length (values spans) ≡ size_of spans
length_values spans = length-flat_map (λ (s : Span). numbers_from s.low (count_of s)) spans ∙ sizes_agree spans

in_one : (s : Span) (v : ℤ) → IsInSpan v s → Contains (numbers_from s.low (count_of s)) v
in_one s v h =
    let k = nat_abs (v -ℤ s.low) in
    let short : k < count_of s = omega (arith, ints) in
    (k, omega (arith, length_numbers s.low (count_of s)), at_number s.low (count_of s) k v short ∙ omega (arith, ints))

in_values : (v : ℤ) (spans : List Span) (k : ℕ) (s : Span) → k < length spans → get_or spans k s ≡ s → IsInSpan v s → Contains (values spans) v
in_values v [] k s h e w = absurd (omega arith)
in_values v (t ∷ rest) zero s h e w =
    Contains-append_left (numbers_from t.low (count_of t)) (values rest) v (in_one t v (subst (IsInSpan v) (sym e) w))
in_values v (t ∷ rest) (suc k) s h e w =
    Contains-append_right (numbers_from t.low (count_of t)) (values rest) v (in_values v rest k s (omega arith) e w)

-- the number of a value among the numbers of spans
pub number_of : (spans : List Span) (v : ℤ) → IsInSpans v spans → (k : ℕ) × (k < size_of spans) × (get_or (values spans) k (pos 0) ≡ v)
number_of spans v h =
    let c = in_values v spans h.0 h.1 h.2 h.3 h.4 in
    (c.0, omega (arith, length_values spans, c.1), get_or_from_slice_get (values spans) c.0 v (pos 0) (slice_get-get_or (values spans) c.0 v c.1 ∙ ap Some c.2))
