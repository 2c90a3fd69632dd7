-- `x in [a..b, c]` holds exactly where x is in one of the ranges.
use Rattle.std.proofs.Common.{◌≡◌, ◌⊎◌, inl, inr, refl, sym, ap, arith, ◌∙◌, true≢false}
use Rattle.std.proofs.lemmas.Int.{ints}
use Rattle.std.proofs.lemmas.Bool.Decides.{Decides-int_eq}
use Rattle.std.specs.Prelude.{◌↔◌, ℤ, pos, int_le, ◌≤ℤ◌, Bool, true, false, ◌||◌, List, [], ◌∷◌, Option, Some}
use Rattle.std.specs.Option.{unwrap_or}
use Rattle.std.specs.Ordering.{int_eq}
use Rattle.pst_ast.specs.ExpressionTree.{PathTree, RangesTree, MakeRanges, MakeNextRange, RangeTree, RangeSingle, RangeBetween, NextRangeRow, NoNextRangeRow, MoreNextRangeRow}
use Rattle.pst_expr.specs.declared.ranges.Span.{Span}
use Rattle.pst_expr.specs.Spans.{IsInSpan}
use Rattle.pst_expr.specs.declared.tree.BinaryOp.TheVariants.{LessOrEqual, GreaterOrEqual, Equal, And, Or}
use Rattle.pst_expr.specs.Value.{number_of, binary_value}
use Rattle.pst_model.specs.ConstraintTree.{SlotTree}
use Rattle.pst_ast.specs.Uses.{next_ends}
use Rattle.pst_type_rules.specs.Domains.{ranges_of}
use Rattle.pst_terms.specs.Terms.{Term, Infix, Reading, ranges_term, or_ranges, range_term}
use Rattle.pst_terms.specs.Values.{term_value}
use Rattle.pst_elab_rules.specs.Meaning.{Holds, IsRangeOf, AreRangesOf, IsInOne}
use Rattle.pst_elab_rules.proofs.Meaning.{one_is_not_zero}

some_is : {A : Type 0} (x y : A) → Some x ≡ Some y → x ≡ y
some_is x y e = ap (λ o. unwrap_or o x) e

-- ---- truth values

-- a term is true just where something is so
pub record Tells (f : SlotTree → Option ℤ) (term : Term SlotTree) (P : Type 0) : Type 0 where
  pub test : Bool
  pub value : term_value f term ≡ Some (number_of test)
  pub to : test ≡ true → P
  pub from : P → test ≡ true

or_value : (a b : Bool) → binary_value Or (Some (number_of a)) (Some (number_of b)) ≡ Some (number_of (a || b))
or_value true b = refl
or_value false true = refl
or_value false false = refl

abbrev both : Bool → Bool → Bool
both true b = b
both false b = false

and_value : (a b : Bool) → binary_value And (Some (number_of a)) (Some (number_of b)) ≡ Some (number_of (both a b))
and_value true true = refl
and_value true false = refl
and_value false b = refl

both_left : (a b : Bool) → both a b ≡ true → a ≡ true
both_left true b e = refl
both_left false b e = e

both_right : (a b : Bool) → both a b ≡ true → b ≡ true
both_right true b e = e
both_right false b e = absurd (true≢false (sym e))

to_both : (a b : Bool) → a ≡ true → b ≡ true → both a b ≡ true
to_both a b p q = ap (λ (c : Bool). both c b) p ∙ q

or_cases : (a b : Bool) → (a || b) ≡ true → (a ≡ true) ⊎ (b ≡ true)
or_cases true b e = inl refl
or_cases false b e = inr e

or_left : (a b : Bool) → a ≡ true → (a || b) ≡ true
or_left a b e = ap (λ (c : Bool). c || b) e

or_right : (a b : Bool) → b ≡ true → (a || b) ≡ true
or_right true b e = refl
or_right false b e = e

-- ---- ranges

at_most : (a b : ℤ) → int_le a b ≡ true → a ≤ℤ b
at_most a b e = omega (arith, ints, e)

tests_most : (a b : ℤ) → a ≤ℤ b → int_le a b ≡ true
tests_most a b e = grind (arith, ints)

module _ (f : SlotTree → Option ℤ) (read : PathTree → Reading SlotTree) (x : Term SlotTree) (v : ℤ) (known : term_value f x ≡ Some v) where
  range_tells : (r : RangeTree) (s : Span) → IsRangeOf f read r s → Tells f (range_term read x r) (IsInSpan v s)
  range_tells (RangeSingle expr) s is = record {
    test = int_eq v s.low;
    value = λ i. binary_value Equal (known i) (is.0 i);
    to = λ e. let same : v ≡ s.low = (Decides-int_eq v s.low).0 e in (omega (arith, ints, same), omega (arith, ints, same, is.1));
    from = λ h. (Decides-int_eq v s.low).1 (omega (arith, ints, h.0, h.1, is.1));
  }
  range_tells (RangeBetween low dots high) s is = record {
    test = both (int_le s.low v) (int_le v s.high);
    value = (λ i. binary_value And (binary_value GreaterOrEqual (known i) (is.0 i)) (binary_value LessOrEqual (known i) (is.1 i))) ∙ and_value (int_le s.low v) (int_le v s.high);
    to = λ e. (at_most s.low v (both_left (int_le s.low v) (int_le v s.high) e), at_most v s.high (both_right (int_le s.low v) (int_le v s.high) e));
    from = λ h. to_both (int_le s.low v) (int_le v s.high) (tests_most s.low v h.0) (tests_most v s.high h.1);
  }

  either_tells : (a b : Term SlotTree) (P Q : Type 0) → Tells f a P → Tells f b Q → Tells f (Infix Or a b) (P ⊎ Q)
  either_tells a b P Q p q = record {
    test = p.test || q.test;
    value = (λ i. binary_value Or (p.value i) (q.value i)) ∙ or_value p.test q.test;
    to = λ e. to_either (or_cases p.test q.test e);
    from = from_either;
  }
    where
      to_either : (p.test ≡ true) ⊎ (q.test ≡ true) → P ⊎ Q
      to_either (inl e) = inl (p.to e)
      to_either (inr e) = inr (q.to e)

      from_either : P ⊎ Q → (p.test || q.test) ≡ true
      from_either (inl h) = or_left p.test q.test (p.from h)
      from_either (inr h) = or_right p.test q.test (q.from h)

  told : (term : Term SlotTree) (P Q : Type 0) → (P → Q) → (Q → P) → Tells f term P → Tells f term Q
  told term P Q to from p = record { test = p.test; value = p.value; to = λ e. to (p.to e); from = λ h. p.from (from h) }

  swap : (P Q R : Type 0) → (P ⊎ Q) ⊎ R → P ⊎ (Q ⊎ R)
  swap P Q R (inl (inl p)) = inl p
  swap P Q R (inl (inr q)) = inr (inl q)
  swap P Q R (inr r) = inr (inr r)

  back : (P Q R : Type 0) → P ⊎ (Q ⊎ R) → (P ⊎ Q) ⊎ R
  back P Q R (inl p) = inl (inl p)
  back P Q R (inr (inl q)) = inl (inr q)
  back P Q R (inr (inr r)) = inr r

  no_more : (P : Type 0) → P ⊎ ⊥ → P
  no_more P (inl p) = p
  no_more P (inr none) = absurd none

  rest_tells : (before : Term SlotTree) (P : Type 0) → Tells f before P → (row : NextRangeRow) (spans : List Span) → AreRangesOf f read (next_ends row) spans
      → Tells f (or_ranges read x before row) (P ⊎ IsInOne v spans)
  rest_tells before P p NoNextRangeRow [] are = told before P (P ⊎ ⊥) (λ h. inl h) (no_more P) p
  rest_tells before P p NoNextRangeRow (s ∷ spans) are = absurd are
  rest_tells before P p (MoreNextRangeRow (MakeNextRange comma range) tail) [] are = absurd are
  rest_tells before P p (MoreNextRangeRow (MakeNextRange comma range) tail) (s ∷ spans) are =
      let next = either_tells before (range_term read x range) P (IsInSpan v s) p (range_tells range s are.0) in
      told (or_ranges read x (Infix Or before (range_term read x range)) tail) ((P ⊎ IsInSpan v s) ⊎ IsInOne v spans) (P ⊎ (IsInSpan v s ⊎ IsInOne v spans)) (swap P (IsInSpan v s) (IsInOne v spans))
      (back P (IsInSpan v s) (IsInOne v spans)) (rest_tells (Infix Or before (range_term read x range)) (P ⊎ IsInSpan v s) next tail spans are.1)

  ranges_tell : (ranges : RangesTree) (spans : List Span) → AreRangesOf f read (ranges_of ranges) spans → Tells f (ranges_term read x ranges) (IsInOne v spans)
  ranges_tell (MakeRanges first rest) [] are = absurd are
  ranges_tell (MakeRanges first rest) (s ∷ spans) are = rest_tells (range_term read x first) (IsInSpan v s) (range_tells first s are.0) rest spans are.1

  test_by : (b : Bool) → (number_of b ≡ pos 0 → ⊥) → b ≡ true
  test_by true h = refl
  test_by false h = absurd (h refl)

  not_zero_by : (b : Bool) → b ≡ true → number_of b ≡ pos 0 → ⊥
  not_zero_by b e z = one_is_not_zero (sym (ap number_of e) ∙ z)

  holds_to : (term : Term SlotTree) (P : Type 0) → Tells f term P → Holds f term → P
  holds_to term P p has = p.to (test_by p.test (λ z. has.2 (sym (some_is (number_of p.test) has.0 (sym p.value ∙ has.1)) ∙ z)))

  pub inside : (ranges : RangesTree) (spans : List Span) → AreRangesOf f read (ranges_of ranges) spans → Holds f (ranges_term read x ranges) ↔ IsInOne v spans
  inside ranges spans are =
      let tells = ranges_tell ranges spans are in
      ((λ has. holds_to (ranges_term read x ranges) (IsInOne v spans) tells has), (λ h. (number_of tells.test, tells.value, not_zero_by tells.test (tells.from h))))
