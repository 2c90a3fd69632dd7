-- The elements that the code reads are those of the table.
use Rattle.std.proofs.Common.{◌≡◌, ⊎_elim, ℕ, zero, suc, ◌+◌, ◌-◌, ◌^◌, ◌<◌, ◌≤◌, min, ℤ, pos, ◌-ℤ◌, ◌≤ℤ◌, nat_abs, true, false, int_le, List, [], length, take, drop, map, Option, None, FitsSigned, w64, to_z, of_z, arith, refl, sym, ap, ap₂, ◌∙◌}
use Rattle.std.specs.Int.{int_min, int_max}
use Rattle.std.proofs.lemmas.Bool.{cases_lt}
use Rattle.std.proofs.lemmas.Int.{ints, clamps, to_z-of_z}
use Rattle.std.proofs.lemmas.List.{take_all, length-drop}
use Rattle.std.proofs.Math.ListN.{drop_of_length-le}
use lib.Signed.{lt_z}
use Rattle.pst_expr.specs.declared.ranges.Span.{Span}
use Rattle.pst_domain.specs.Cut.{cut_span}
use Rattle.pst_domain.specs.Element.{joined_all, elements, element_span}

pub lowest_is : (z r : ℤ) → FitsSigned w64 z → r ≡ int_max (to_z w64 (of_z w64 z)) (pos 0) → r ≡ int_max z (pos 0)
lowest_is z r f e = e ∙ ap (λ x. int_max x (pos 0)) (to_z-of_z w64 z f)

pub highest_is : (z r count : ℤ) (n : ℕ) → FitsSigned w64 z → n < 2 ^ 32 → count ≡ pos n → r ≡ int_min (to_z w64 (of_z w64 z)) (to_z w64 (of_z w64 (to_z w64 (of_z w64 count) -ℤ pos 1))) → r ≡ int_min z (pos n -ℤ pos 1)
highest_is z r count n f h c e =
    let small : FitsSigned w64 (pos n) = omega (arith, ints) in
    let less : FitsSigned w64 (pos n -ℤ pos 1) = omega (arith, ints) in
    let is : to_z w64 (of_z w64 count) -ℤ pos 1 ≡ pos n -ℤ pos 1 = ap (λ x. to_z w64 (of_z w64 x) -ℤ pos 1) c ∙ ap (λ x. x -ℤ pos 1) (to_z-of_z w64 (pos n) small) in
    e ∙ ap₂ int_min (to_z-of_z w64 z f) (ap (λ x. to_z w64 (of_z w64 x)) is ∙ to_z-of_z w64 (pos n -ℤ pos 1) less)

module _ (bounds : List (Option Span)) (first count : ℕ) (s : Span) where
  pub no_index : int_le (int_max s.low (pos 0)) (int_min s.high (pos count -ℤ pos 1)) ≡ false → element_span bounds first count s ≡ None
  no_index t = rw t refl

  pub some_index : int_le (int_max s.low (pos 0)) (int_min s.high (pos count -ℤ pos 1)) ≡ true → element_span bounds first count s ≡ joined_all (map cut_span (elements bounds first (nat_abs (int_max s.low (pos 0))) (nat_abs (int_min s.high (pos count -ℤ pos 1)))))
  some_index t = rw t refl

-- the order that the code's test tells
pub reversed : (l h : ℤ) → FitsSigned w64 l → FitsSigned w64 h → lt_z (to_z w64 (of_z w64 h)) (to_z w64 (of_z w64 l)) ≡ true → int_le l h ≡ false
reversed l h f g t =
    let u : lt_z h l ≡ true = ap₂ lt_z (sym (to_z-of_z w64 h g)) (sym (to_z-of_z w64 l f)) ∙ t in
    grind (arith, ints)

pub in_order : (l h : ℤ) → FitsSigned w64 l → FitsSigned w64 h → lt_z (to_z w64 (of_z w64 h)) (to_z w64 (of_z w64 l)) ≡ false → int_le l h ≡ true
in_order l h f g t =
    let u : lt_z h l ≡ false = ap₂ lt_z (sym (to_z-of_z w64 h g)) (sym (to_z-of_z w64 l f)) ∙ t in
    grind (arith, ints)

nothing_taken : (k : ℕ) → take {A = Option Span} k [] ≡ []
nothing_taken zero = refl
nothing_taken (suc k) = refl

same_part : (xs : List (Option Span)) (a b : ℕ) → a ≤ b → take (min b (length xs) - min a (length xs)) (drop (min a (length xs)) xs) ≡ take (b - a) (drop a xs)
same_part xs a b h =
    let n = length xs in
    ⊎_elim
    (λ inside.
    let start : min a n ≡ a = omega arith in
    ⊎_elim
    (λ past.
    let stop : min b n ≡ n = omega arith in
    let rest = length-drop a xs in
    rw (start, stop) (take_all (n - a) (drop a xs) (omega arith) ∙ sym (take_all (b - a) (drop a xs) (omega arith))))
    (λ within.
    let stop : min b n ≡ b = omega arith in
    rw (start, stop) refl)
    (cases_lt n b))
    (λ past.
    let start : min a n ≡ n = omega arith in
    let stop : min b n ≡ n = omega arith in
    let none : n - n ≡ 0 = omega arith in
    let gone : drop a xs ≡ [] = drop_of_length-le xs past in
    rw (start, stop, none, gone) (sym (nothing_taken (b - a))))
    (cases_lt a n)

-- the slice that the code reads, from the parts that it computes
pub same_elements : (xs bounds : List (Option Span)) (first low high start end : ℕ) → xs ≡ bounds → low ≤ high → start ≡ min (first + low) (length xs) → end ≡ min (first + high + 1) (length xs) → take (end - start) (drop start xs) ≡ elements bounds first low high
same_elements xs bounds first low high start end same order s e =
    let count : first + high + 1 - (first + low) ≡ high + 1 - low = omega arith in
    ap₂ (λ a b. take (b - a) (drop a xs)) s e ∙ same_part xs (first + low) (first + high + 1) (omega arith) ∙ ap₂ (λ k (ys : List (Option Span)). take k (drop (first + low) ys)) count same

abs_in_order : (l h : ℤ) → pos 0 ≤ℤ l → int_le l h ≡ true → nat_abs l ≤ nat_abs h
abs_in_order l h p t = omega (arith, ints, t)

pub element_read : (xs bounds : List (Option Span)) (first count : ℕ) (s : Span) (l h : ℤ) (start end : ℕ) → xs ≡ bounds → FitsSigned w64 l → FitsSigned w64 h → l ≡ int_max s.low (pos 0) → h ≡ int_min s.high (pos count -ℤ pos 1) → int_le l h ≡ true → start ≡ min (first + nat_abs (to_z w64 (of_z w64 l))) (length xs) → end ≡ min (first + nat_abs (to_z w64 (of_z w64 h)) + 1) (length xs) → joined_all (map cut_span (take (end - start) (drop start xs))) ≡ element_span bounds first count s
element_read xs bounds first count s l h start end same f g low high t e e' =
    let a = ap (λ x. min (first + nat_abs x) (length xs)) (to_z-of_z w64 l f) in
    let b = ap (λ x. min (first + nat_abs x + 1) (length xs)) (to_z-of_z w64 h g) in
    let above : pos 0 ≤ℤ l = omega (arith, ints, clamps, low) in
    let read = same_elements xs bounds first (nat_abs l) (nat_abs h) start end same (abs_in_order l h above t) (e ∙ a) (e' ∙ b) in
    let table = some_index bounds first count s (ap₂ int_le (sym low) (sym high) ∙ t) in
    ap (λ (ys : List (Option Span)). joined_all (map cut_span ys)) (read ∙ ap₂ (λ x y. elements bounds first (nat_abs x) (nat_abs y)) low high) ∙ sym table
