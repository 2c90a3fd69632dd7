-- The numbers of spans, one after another.
use Rattle.std.proofs.Common.{◌≡◌, ℕ, zero, suc, ◌+◌, ◌<◌, ℤ, pos, ◌+ℤ◌, List, [], ◌∷◌, length, get_or, take, Some, sum_by, slice_get, arith, refl, ap, ap₂, sym, ◌∙◌}
use Rattle.std.proofs.lemmas.Int.{ints}
use Rattle.std.proofs.lemmas.List.Concat.{length-flat_map, get_or-flat_map}
use Rattle.std.proofs.lemmas.List.Sums.{sum_by-cons, sum_by_more_le}
use Rattle.std.proofs.lemmas.Option.{slice_get_read}
use Rattle.pst_expr.specs.declared.ranges.Span.{Span}
use Rattle.pst_expr.specs.Spans.{numbers_from, values, size_of, count_of}

pub length-numbers_from : (z : ℤ) (n : ℕ) → length (numbers_from z n) ≡ n
unfolding numbers_from
length-numbers_from z zero = refl
length-numbers_from z (suc n) = ap suc (length-numbers_from (z +ℤ pos 1) n)

pub get_or-numbers_from : (z : ℤ) (n j : ℕ) (d : ℤ) → j < n → get_or (numbers_from z n) j d ≡ z +ℤ pos j
unfolding numbers_from
get_or-numbers_from z zero j d h = absurd (omega arith)
get_or-numbers_from z (suc n) zero d h = omega (arith, ints)
get_or-numbers_from z (suc n) (suc j) d h = get_or-numbers_from (z +ℤ pos 1) n j d (omega arith) ∙ omega (arith, ints)

sizes_agree : (spans : List Span) → sum_by (λ (s : Span). length (numbers_from s.low (count_of s))) spans ≡ size_of spans
sizes_agree [] = refl
sizes_agree (s ∷ rest) =
    sum_by-cons (λ (s : Span). length (numbers_from s.low (count_of s))) s rest ∙ ap₂ ◌+◌ (length-numbers_from s.low (count_of s)) (sizes_agree rest) ∙ sym (sum_by-cons count_of s rest)

pub length-values : (spans : List Span) → length (values spans) ≡ size_of spans
length-values spans = length-flat_map (λ (s : Span). numbers_from s.low (count_of s)) spans ∙ sizes_agree spans

-- the number at a place within the i-th span
pub number_at : (spans : List Span) (i r index : ℕ) (d : Span) (v : ℤ) → i < length spans → size_of (take i spans) + r ≡ index → r < count_of (get_or spans i d) → v ≡ (get_or spans i d).low +ℤ pos r → slice_get (values spans) index ≡ Some v
number_at spans i r index d v h e k is =
    let f = λ (s : Span). numbers_from s.low (count_of s) in
    let s = get_or spans i d in
    let before : length (values (take i spans)) + r ≡ index = omega (arith, length-values (take i spans)) in
    let inside : r < length (f s) = omega (arith, length-numbers_from s.low (count_of s)) in
    let found : get_or (values spans) index v ≡ v =
    ap (λ n. get_or (values spans) n v) (sym before) ∙ get_or-flat_map f spans i r d v h inside ∙ get_or-numbers_from s.low (count_of s) r v k ∙ sym is in
    let short : index < length (values spans) = omega (arith, length-values spans, sum_by_more_le count_of spans i d h) in
    slice_get_read (values spans) (length (values spans)) index v refl short (sym found)
