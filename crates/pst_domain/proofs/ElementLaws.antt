-- Spans of elements hold the values, and narrower bounds give a narrower span.
use Rattle.std.proofs.Common.{◌≡◌, ⊎_elim, ℕ, zero, suc, ◌+◌, ◌-◌, ◌<◌, ◌≤◌, ℤ, pos, negsuc, ◌-ℤ◌, ◌≤ℤ◌, ◌<ℤ◌, int_le, nat_abs, nat_lt, Bool, true, false, cond, List, [], ◌∷◌, length, map, take, drop, fold, Option, Some, None, slice_index_or, arith, refl, sym, ap, subst, ◌∙◌}
use Rattle.std.specs.Int.{int_min, int_max}
use Rattle.std.proofs.lemmas.Int.{ints, clamps}
use Rattle.std.proofs.lemmas.Bool.{cases_lt}
use Rattle.std.proofs.lemmas.Bool.Decides.{nat_tests}
use Rattle.pst_num.specs.Range.{is_in_range}
use Rattle.pst_expr.specs.declared.ranges.Span.{Span}
use Rattle.pst_expr.specs.Spans.{IsInSpan}
use Rattle.pst_expr.specs.Value.{given, variable_value, element_value}
use Rattle.pst_domain.specs.Bounds.{bound_of, Holds, AreWithin, IsInside, AreInside}
use Rattle.pst_domain.specs.Cut.{cut_span}
use Rattle.pst_domain.specs.Element.{joined, joined_all, elements, element_span}
use Rattle.pst_domain.proofs.Decisions.{by_le, by_not_le}
use Rattle.pst_domain.proofs.CutLaws.{Sane, cut_span_sane, cut_span_holds, cut_span_inside, inside_self, inside_trans, inside_holds}

-- ---- joined spans

joined_left : (a b : Option Span) → IsInside a (joined a b)
joined_left None b = tt
joined_left (Some s) None = inside_self (Some s)
joined_left (Some s) (Some t) = (omega (arith, ints, clamps), omega (arith, ints, clamps))

joined_right : (a b : Option Span) → IsInside b (joined a b)
joined_right None b = inside_self b
joined_right (Some s) None = tt
joined_right (Some s) (Some t) = (omega (arith, ints, clamps), omega (arith, ints, clamps))

joined_inside : (a b r : Option Span) → IsInside a r → IsInside b r → IsInside (joined a b) r
joined_inside None b r h k = k
joined_inside (Some s) None r h k = h
joined_inside (Some s) (Some t) None h k = absurd h
joined_inside (Some s) (Some t) (Some u) h k = (omega (arith, ints, clamps, h.0, k.0), omega (arith, ints, clamps, h.1, k.1))

joined_sane : (a b : Option Span) → Sane a → Sane b → Sane (joined a b)
joined_sane None b h k = k
joined_sane (Some s) None h k = h
joined_sane (Some s) (Some t) h k = record {
  from_least = omega (arith, ints, clamps, h.from_least, k.from_least);
  upright = omega (arith, ints, clamps, h.upright, k.upright);
  to_greatest = omega (arith, ints, clamps, h.to_greatest, k.to_greatest);
}

first_inside : (a : Option Span) (rs : List (Option Span)) → IsInside a (fold joined a rs)
first_inside a [] = inside_self a
first_inside a (r ∷ rs) = inside_trans a (joined a r) (fold joined (joined a r) rs) (joined_left a r) (first_inside (joined a r) rs)

abbrev pub item : List (Option Span) → ℕ → Option Span
item rs i = slice_index_or rs i None

each_inside : (rs : List (Option Span)) (a : Option Span) (i : ℕ) → IsInside (item rs i) (fold joined a rs)
each_inside [] a i = tt
each_inside (r ∷ rs) a zero = inside_trans r (joined a r) (fold joined (joined a r) rs) (joined_right a r) (first_inside (joined a r) rs)
each_inside (r ∷ rs) a (suc i) = each_inside rs (joined a r) i

all_inside : (rs : List (Option Span)) (a r : Option Span) → IsInside a r → ((i : ℕ) → IsInside (item rs i) r) → IsInside (fold joined a rs) r
all_inside [] a r h k = h
all_inside (x ∷ rs) a r h k = all_inside rs (joined a x) r (joined_inside a x r h (k 0)) (λ i. k (suc i))

all_sane : (rs : List (Option Span)) (a : Option Span) → Sane a → Sane (fold joined a (map cut_span rs))
all_sane [] a h = h
all_sane (r ∷ rs) a h = all_sane rs (joined a (cut_span r)) (joined_sane a (cut_span r) h (cut_span_sane r))

-- ---- the bounds at some indices

taken_item : (rs : List (Option Span)) (k i : ℕ) → i < k → item (map cut_span (take k rs)) i ≡ cut_span (item rs i)
taken_item rs zero i h = absurd (omega arith)
taken_item [] (suc k) i h = refl
taken_item (r ∷ rs) (suc k) zero h = refl
taken_item (r ∷ rs) (suc k) (suc i) h = taken_item rs k i (omega arith)

no_item : (rs : List (Option Span)) (k i : ℕ) → k ≤ i → item (map cut_span (take k rs)) i ≡ None
no_item rs zero i h = refl
no_item [] (suc k) i h = refl
no_item (r ∷ rs) (suc k) zero h = absurd (omega arith)
no_item (r ∷ rs) (suc k) (suc i) h = no_item rs k i (omega arith)

dropped_item : (rs : List (Option Span)) (d k i : ℕ) → i < k → item (map cut_span (take k (drop d rs))) i ≡ cut_span (item rs (d + i))
dropped_item rs zero k i h =
    let e : i ≡ 0 + i = omega arith in
    taken_item rs k i h ∙ ap (λ j. cut_span (item rs j)) e
dropped_item [] (suc d) k i h = taken_item [] k i h
dropped_item (r ∷ rs) (suc d) k i h =
    let e : suc (d + i) ≡ suc d + i = omega arith in
    dropped_item rs d k i h ∙ ap (λ j. cut_span (item (r ∷ rs) j)) e

-- the least and the greatest index of a span that an array of a number of elements has
abbrev pub lowest : Span → ℤ
lowest s = int_max s.low (pos 0)

abbrev pub highest : ℕ → Span → ℤ
highest count s = int_min s.high (pos count -ℤ pos 1)

abbrev pub read : List (Option Span) → ℕ → ℕ → Span → List (Option Span)
read bounds first count s = map cut_span (elements bounds first (nat_abs (lowest s)) (nat_abs (highest count s)))

element_cases : (P : Option Span → Type 0) (bounds : List (Option Span)) (first count : ℕ) (s : Span) → (lowest s ≤ℤ highest count s → P (joined_all (read bounds first count s))) → (highest count s <ℤ lowest s → P None) → P (element_span bounds first count s)
element_cases P bounds first count s some none = go (int_le (lowest s) (highest count s)) refl
  where
    go : (b : Bool) → int_le (lowest s) (highest count s) ≡ b → P (cond b (joined_all (read bounds first count s)) None)
    go true e = some (by_le (lowest s) (highest count s) e)
    go false e = none (by_not_le (lowest s) (highest count s) e)

module _ (bounds : List (Option Span)) (first count : ℕ) (s : Span) (i : ℕ) (h : lowest s ≤ℤ pos i) (k : pos i ≤ℤ highest count s) where
  -- the bounds of the element at an index are among those that are read
  is_read : item (read bounds first count s) (i - nat_abs (lowest s)) ≡ cut_span (bound_of bounds (first + i))
  is_read =
      let from : nat_abs (lowest s) ≤ i = omega (arith, ints, clamps) in
      let to : i ≤ nat_abs (highest count s) = omega (arith, ints, clamps) in
      let at : first + nat_abs (lowest s) + (i - nat_abs (lowest s)) ≡ first + i = omega arith in
      dropped_item bounds (first + nat_abs (lowest s)) (nat_abs (highest count s) + 1 - nat_abs (lowest s)) (i - nat_abs (lowest s)) (omega arith)
      ∙ ap (λ n. cut_span (item bounds n)) at

  is_joined : IsInside (cut_span (bound_of bounds (first + i))) (joined_all (read bounds first count s))
  is_joined = subst (λ r. IsInside r (joined_all (read bounds first count s))) is_read (each_inside (read bounds first count s) None (i - nat_abs (lowest s)))

-- ---- the laws

nat_lt_of : (i n : ℕ) → nat_lt i n ≡ true → i < n
nat_lt_of i n e = grind (arith, nat_tests)

pub given_holds : (r : Option Span) (v : Option ℤ) → Holds r v → Holds (cut_span r) (given v)
given_holds r None h = tt
given_holds r (Some z) h = go (is_in_range z) refl
  where
    go : (b : Bool) → is_in_range z ≡ b → Holds (cut_span r) (cond b (Some z) None)
    go true e = cut_span_holds r z h e
    go false e = tt

pub element_holds : (bounds : List (Option Span)) (values : List (Option ℤ)) (first count : ℕ) (s : Span) (x : ℤ) → AreWithin bounds values → ((i : ℕ) → i < count → first + i < length bounds) → IsInSpan x s → Holds (element_span bounds first count s) (given (element_value values first count x))
element_holds bounds values first count s (negsuc i) w below h = tt
element_holds bounds values first count s (pos i) w below h = go (nat_lt i count) refl
  where
    go : (b : Bool) → nat_lt i count ≡ b → Holds (element_span bounds first count s) (given (cond b (variable_value values (first + i)) None))
    go false e = tt
    go true e =
        let inside : i < count = nat_lt_of i count e in
        let held = given_holds (bound_of bounds (first + i)) (variable_value values (first + i)) (w (first + i) (below i inside)) in
        let low : lowest s ≤ℤ pos i = omega (arith, ints, clamps, h.0) in
        let high : pos i ≤ℤ highest count s = omega (arith, ints, clamps, h.1) in
        element_cases (λ r. Holds r (given (variable_value values (first + i)))) bounds first count s
        (λ o. inside_holds (cut_span (bound_of bounds (first + i))) (joined_all (read bounds first count s)) (given (variable_value values (first + i))) (is_joined bounds first count s i low high) held)
        (λ o. absurd (omega (arith, ints)))

module _ (inner outer : List (Option Span)) (inside : AreInside inner outer) (first count : ℕ) (s s' : Span) (h : IsInside (Some s') (Some s)) where
  -- each of the inner bounds that are read lies inside the outer ones
  each_within : lowest s' ≤ℤ highest count s' → (i : ℕ) → IsInside (item (read inner first count s') i) (joined_all (read outer first count s))
  each_within some i =
      ⊎_elim
      (λ l.
      let j = nat_abs (lowest s') + i in
      let low : lowest s ≤ℤ pos j = omega (arith, ints, clamps, h.0) in
      let high : pos j ≤ℤ highest count s = omega (arith, ints, clamps, h.0, h.1) in
      let at : first + nat_abs (lowest s') + i ≡ first + j = omega arith in
      let is = dropped_item inner (first + nat_abs (lowest s')) (nat_abs (highest count s') + 1 - nat_abs (lowest s')) i l ∙ ap (λ n. cut_span (item inner n)) at in
      let within = inside_trans (cut_span (bound_of inner (first + j))) (cut_span (bound_of outer (first + j))) (joined_all (read outer first count s)) (cut_span_inside (bound_of inner (first + j)) (bound_of outer (first + j)) (inside (first + j))) (is_joined outer first count s j low high) in
      subst (λ r. IsInside r (joined_all (read outer first count s))) (sym is) within)
      (λ m.
      let is = no_item (drop (first + nat_abs (lowest s')) inner) (nat_abs (highest count s') + 1 - nat_abs (lowest s')) i m in
      subst (λ r. IsInside r (joined_all (read outer first count s))) (sym is) tt)
      (cases_lt i (nat_abs (highest count s') + 1 - nat_abs (lowest s')))

  pub element_inside : IsInside (element_span inner first count s') (element_span outer first count s)
  element_inside =
      element_cases (λ r. IsInside (element_span inner first count s') r) outer first count s
      (λ o.
      element_cases (λ r. IsInside r (joined_all (read outer first count s))) inner first count s'
      (λ o'. all_inside (read inner first count s') None (joined_all (read outer first count s)) tt (each_within o'))
      (λ o'. tt))
      (λ o.
      element_cases (λ r. IsInside r None) inner first count s'
      (λ o'. absurd (omega (arith, ints, clamps, h.0, h.1)))
      (λ o'. tt))

pub element_sane : (bounds : List (Option Span)) (first count : ℕ) (s : Span) → Sane (element_span bounds first count s)
element_sane bounds first count s =
    element_cases Sane bounds first count s
    (λ o. all_sane (elements bounds first (nat_abs (lowest s)) (nat_abs (highest count s))) None tt)
    (λ o. tt)
