-- Constants, and elements at them.
use Rattle.std.proofs.Common.{◌≡◌, ℕ, zero, suc, ◌+◌, ◌-◌, ◌<◌, ℤ, pos, negsuc, ◌≤ℤ◌, ◌+ℤ◌, ◌-ℤ◌, int_le, unsigned_abs, ◌^◌, FitsSigned, w64, arith, map, take, drop, List, [], ◌∷◌, Bool, true, false, if◌then◌else◌, Option, Some, None, option_and_then, refl, sym, ap, ap₂, ◌∙◌, subst}
use Rattle.std.specs.Int.{int_min, int_max}
use Rattle.std.specs.Prelude.{IfSome, SomeIff}
use Rattle.std.proofs.lemmas.Bool.{and_parts, lt-ltb}
use Rattle.std.proofs.lemmas.Bool.Decides.{nat_tests}
use Rattle.std.proofs.lemmas.Int.{ints, clamps}
use Rattle.pst_num.specs.Range.{least, greatest, is_in_range, in_range}
use Rattle.pst_expr.specs.declared.ranges.Span.{Span}
use Rattle.pst_expr.specs.declared.tree.BinaryOp.TheVariants.{Add, Sub}
use Rattle.pst_expr.specs.Tree.{Constant, Variable, Binary, Element}
use Rattle.pst_expr.specs.Value.{given, variable_value, element_value, binary_value}
use Rattle.pst_domain.specs.Bounds.{bound_of}
use Rattle.pst_domain.specs.Cut.{cut_span, point}
use Rattle.pst_domain.specs.Element.{joined_all, elements, element_span}
use Rattle.pst_domain.specs.Interval.{binary_span}
use Rattle.pst_written_constraints.specs.Alike.{AreAlike}

by_le : (a b : ℤ) → int_le a b ≡ true → a ≤ℤ b
by_le a b e = omega (arith, ints, e)

ranged_by : (z n : ℤ) (b : Bool) → (if b then Some z else None) ≡ Some n → (b ≡ true) × (z ≡ n)
ranged_by z n true e = (refl, cc)
ranged_by z n false e = absurd cc

-- a number that is a value, by its order
ordered : (z n : ℤ) → in_range z ≡ Some n → (least ≤ℤ z) × (z ≤ℤ greatest)
ordered z n e =
    let p = and_parts (int_le least z) (int_le z greatest) (ranged_by z n (is_in_range z) e).0 in
    (by_le least z p.0, by_le z greatest p.1)

same_number : (z n : ℤ) → in_range z ≡ Some n → z ≡ n
same_number z n e = (ranged_by z n (is_in_range z) e).1

abbrev made : ℤ → ℤ → Option Span
made low high = if int_le low high then Some (record { low = low; high = high }) else None

le_self_by : (z : ℤ) (b : Bool) → int_le z z ≡ b → b ≡ true
le_self_by z true e = refl
le_self_by z false e = absurd (omega (arith, ints, e))

le_self : (z : ℤ) → int_le z z ≡ true
le_self z = le_self_by z (int_le z z) refl

taken : (s : Span) (b : Bool) → b ≡ true → (if b then Some s else None) ≡ Some s
taken s true e = refl
taken s false e = absurd cc

-- the span of a value is itself
point_is : (z : ℤ) → least ≤ℤ z → z ≤ℤ greatest → point z ≡ Some (record { low = z; high = z })
point_is z low high =
    let a : int_max z least ≡ z = omega (arith, ints, clamps, low) in
    let b : int_min z greatest ≡ z = omega (arith, ints, clamps, high) in
    ap₂ made a b ∙ taken (record { low = z; high = z }) (int_le z z) (le_self z)

module _ (a b n : ℤ) (left : in_range a ≡ Some a) (right : in_range b ≡ Some b) where
  spans_at : (f : Option Span → Option Span → Option Span) → f (point a) (point b) ≡ f (Some (record { low = a; high = a })) (Some (record { low = b; high = b }))
  spans_at f = let l = ordered a a left in let r = ordered b b right in ap₂ f (point_is a l.0 l.1) (point_is b r.0 r.1)

  pub sum_alike : in_range (a +ℤ b) ≡ Some n → AreAlike (Binary Add (Constant a) (Constant b)) (Constant n)
  sum_alike e =
      let same = same_number (a +ℤ b) n e in record {
        values = λ values. ap₂ (λ x y. binary_value Add x y) left right ∙ ap in_range same;
        spans = λ bounds. spans_at (λ x y. binary_span Add x y) ∙ ap point same;
        variables = λ k below. tt;
      }

  pub difference_alike : in_range (a -ℤ b) ≡ Some n → AreAlike (Binary Sub (Constant a) (Constant b)) (Constant n)
  difference_alike e =
      let same = same_number (a -ℤ b) n e in record {
        values = λ values. ap₂ (λ x y. binary_value Sub x y) left right ∙ ap in_range same;
        spans = λ bounds. spans_at (λ x y. binary_span Sub x y) ∙ ap point same;
        variables = λ k below. tt;
      }

-- ---- elements

one_bound : (bounds : List (Option Span)) (k : ℕ) → joined_all (map cut_span (take 1 (drop k bounds))) ≡ cut_span (bound_of bounds k)
one_bound [] zero = refl
one_bound [] (suc k) = refl
one_bound (b ∷ bounds) zero = refl
one_bound (b ∷ bounds) (suc k) = one_bound bounds k

module _ (start count i : ℕ) (l : i < count) where
  value_at : (values : List (Option ℤ)) → element_value values start count (pos i) ≡ variable_value values (start + i)
  value_at values = ap (λ b. if b then variable_value values (start + i) else None) (lt-ltb i count l)

  abbrev element_made : List (Option Span) → ℤ → ℤ → Option Span
  element_made bounds low high = if int_le low high then joined_all (map cut_span (elements bounds start (unsigned_abs low) (unsigned_abs high))) else None

  chosen : (bounds : List (Option Span)) (b : Bool) → b ≡ true → (if b then joined_all (map cut_span (elements bounds start i i)) else None) ≡ cut_span (bound_of bounds (start + i))
  chosen bounds true e = (let one : i + 1 - i ≡ 1 = omega arith in ap (λ k. joined_all (map cut_span (take k (drop (start + i) bounds)))) one) ∙ one_bound bounds (start + i)
  chosen bounds false e = absurd cc

  span_at : (bounds : List (Option Span)) → element_span bounds start count (record { low = pos i; high = pos i }) ≡ cut_span (bound_of bounds (start + i))
  span_at bounds =
      let low : int_max (pos i) (pos 0) ≡ pos i = omega (arith, ints, clamps) in
      let high : int_min (pos i) (pos count -ℤ pos 1) ≡ pos i = omega (arith, ints, clamps, l) in
      ap₂ (element_made bounds) low high ∙ chosen bounds (int_le (pos i) (pos i)) (le_self (pos i))

  pub element_alike : in_range (pos i) ≡ Some (pos i) → AreAlike (Element start count (Constant (pos i))) (Variable (start + i))
  element_alike ranged = record {
    values = λ values. ap (λ o. given (option_and_then (element_value values start count) o)) ranged ∙ ap given (value_at values);
    spans = λ bounds.
        let o = ordered (pos i) (pos i) ranged in
        ap (option_and_then (element_span bounds start count)) (point_is (pos i) o.0 o.1) ∙ span_at bounds;
    variables = λ n below. below.0 i l;
  }

-- ---- places of elements

value_pos : (n : ℕ) → n < 2 ^ 63 → in_range (pos n) ≡ Some (pos n)
value_pos n h = grind (arith, nat_tests)

value_negsuc : (n : ℕ) → n < 2 ^ 63 → in_range (negsuc n) ≡ Some (negsuc n)
value_negsuc n h = grind (arith, nat_tests)

-- a number of that width is a value
pub is_value : (z : ℤ) → FitsSigned w64 z → in_range z ≡ Some z
is_value (pos n) h = value_pos n h.sfits
is_value (negsuc n) h = value_negsuc n h.sfits

-- the variable of an element at a place
pub placed : (start count place : ℕ) (z : ℤ) (o : Option ℕ) → in_range z ≡ Some z → z ≡ pos place → place < count → SomeIff o (start + place < 2 ^ 32) (start + place)
    → IfSome o (λ i. AreAlike (Element start count (Constant z)) (Variable i))
placed start count place z None ranged is l added = tt
placed start count place z (Some i) ranged is l added =
    let own : in_range (pos place) ≡ Some (pos place) = subst (λ (y : ℤ). in_range y ≡ Some y) is ranged in
    subst (λ (y : ℤ). AreAlike (Element start count (Constant y)) (Variable i)) (sym is)
    (subst (λ k. AreAlike (Element start count (Constant (pos place))) (Variable k)) (sym added.1) (element_alike start count place l own))
