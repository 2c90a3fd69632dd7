-- Written expressions are what the expressions are over the slots.
use Rattle.std.proofs.Common.{◌≡◌, ℕ, zero, suc, ◌+◌, ◌-◌, ◌<◌, ◌≤◌, ℤ, pos, negsuc, ◌-ℤ◌, ◌≤ℤ◌, int_le, unsigned_abs, arith, map, take, drop, drop-cons, length, ◌∷◌, List, Bool, true, false, nat_lt, if◌then◌else◌, Option, Some, None, refl, sym, ap, ap₂, ◌∙◌, subst}
use Rattle.std.specs.Prelude.{slice_get}
use Rattle.std.specs.Option.{option_and_then}
use Rattle.std.specs.Int.{int_min, int_max}
use Rattle.std.proofs.lemmas.Bool.{ltb-true}
use Rattle.std.proofs.lemmas.Int.{ints, clamps}
use Rattle.std.proofs.lemmas.Option.{slice_get_within}
use Rattle.pst_expr.specs.declared.ranges.Span.{Span}
use Rattle.pst_expr.specs.declared.tree.UnaryOp.{UnaryOp}
use Rattle.pst_expr.specs.declared.tree.BinaryOp.{BinaryOp}
use Rattle.pst_expr.specs.Tree.{Expression, Constant, Variable, Unary, Binary, Element}
use Rattle.pst_expr.specs.Value.{given, value, variable_value, element_value, unary_value, binary_value}
use Rattle.pst_domain.specs.Bounds.{bound_of}
use Rattle.pst_domain.specs.Cut.{cut_span}
use Rattle.pst_domain.specs.Element.{joined_all, elements, element_span}
use Rattle.pst_domain.specs.Interval.{interval, unary_span, binary_span}
use Rattle.pst_written_constraints.specs.declared.term.Term.{Term}
use Rattle.pst_written_constraints.specs.declared.term.Term.TheVariants as term
use Rattle.pst_written_constraints.specs.Alike.{AreAlike}
use Rattle.pst_written_constraints.specs.Terms.{HasTerm, Agree, HasBound, AgreeWithin, IsMirror, AreInRow, without_value, term_or_unknown}

by_le : (a b : ℤ) → int_le a b ≡ true → a ≤ℤ b
by_le a b e = omega (arith, ints, e)

-- as many bounds from one place on as from another
rows_same : (k p q : ℕ) (xs ys : List (Option Span)) → p + k ≤ length xs → q + k ≤ length ys → ((i : ℕ) → i < k → bound_of xs (p + i) ≡ bound_of ys (q + i)) → take k (drop p xs) ≡ take k (drop q ys)
rows_same zero p q xs ys few some each = refl
rows_same (suc k) p q xs ys few some each =
    let here : bound_of xs p ≡ bound_of ys q = (let a : p ≡ p + 0 = omega arith in let b : q + 0 ≡ q = omega arith in ap (bound_of xs) a ∙ each 0 (omega arith) ∙ ap (bound_of ys) b) in
    let more = rows_same k (suc p) (suc q) xs ys (omega (arith, few)) (omega (arith, some))
    (λ i l.
    let a : suc p + i ≡ p + suc i = omega arith in
    let b : q + suc i ≡ suc q + i = omega arith in
    ap (bound_of xs) a ∙ each (suc i) (omega (arith, l)) ∙ ap (bound_of ys) b) in
    ap (take (suc k)) (drop-cons xs p None (omega (arith, few)))
    ∙ ap₂ (λ x rest. x ∷ rest) here more
    ∙ sym (ap (take (suc k)) (drop-cons ys q None (omega (arith, some))))

module _ (terms : List Term) where
  pub constant_mirror : (n : ℤ) → IsMirror terms (Constant n) (Constant n)
  constant_mirror n = record { values = λ values slots agree. refl; spans = λ bounds slots agree. refl; variables = λ k below. tt }

  pub number_mirror : (j : ℕ) (n : ℤ) → slice_get terms j ≡ Some (term.Number n) → IsMirror terms (Variable j) (Constant n)
  number_mirror j n is = record {
    values = λ values slots agree. sym (ap given (subst (λ o. HasTerm o values (variable_value slots j)) is (agree j)));
    spans = λ bounds slots agree. sym (ap cut_span (subst (λ o. HasBound o bounds (bound_of slots j)) is (agree.each j)));
    variables = λ k below. tt;
  }

  pub variable_mirror : (j i : ℕ) → slice_get terms j ≡ Some (term.Variable i) → IsMirror terms (Variable j) (Variable i)
  variable_mirror j i is = record {
    values = λ values slots agree. sym (ap given (subst (λ o. HasTerm o values (variable_value slots j)) is (agree j)));
    spans = λ bounds slots agree. sym (ap cut_span (subst (λ o. HasBound o bounds (bound_of slots j)) is (agree.each j)));
    variables = λ k below. below j i is;
  }

  pub nothing_mirror : (j : ℕ) → slice_get terms j ≡ Some term.Nothing → IsMirror terms (Variable j) without_value
  nothing_mirror j is = record {
    values = λ values slots agree. sym (ap given (subst (λ o. HasTerm o values (variable_value slots j)) is (agree j)));
    spans = λ bounds slots agree. sym (ap cut_span (subst (λ o. HasBound o bounds (bound_of slots j)) is (agree.each j)));
    variables = λ k below. (tt, tt);
  }

  pub unary_mirror : (op : UnaryOp) (e w : Expression) → IsMirror terms e w → IsMirror terms (Unary op e) (Unary op w)
  unary_mirror op e w m = record {
    values = λ values slots agree. ap (option_and_then (unary_value op)) (m.values values slots agree);
    spans = λ bounds slots agree. ap (option_and_then (unary_span op)) (m.spans bounds slots agree);
    variables = λ k below. m.variables k below;
  }

  pub binary_mirror : (op : BinaryOp) (a b v w : Expression) → IsMirror terms a v → IsMirror terms b w → IsMirror terms (Binary op a b) (Binary op v w)
  binary_mirror op a b v w m n = record {
    values = λ values slots agree. ap₂ (λ x y. binary_value op x y) (m.values values slots agree) (n.values values slots agree);
    spans = λ bounds slots agree. ap₂ (λ x y. binary_span op x y) (m.spans bounds slots agree) (n.spans bounds slots agree);
    variables = λ k below. (m.variables k below, n.variables k below);
  }

  pub alike_mirror : (e w v : Expression) → AreAlike w v → IsMirror terms e w → IsMirror terms e v
  alike_mirror e w v alike m = record {
    values = λ values slots agree. sym (alike.values values) ∙ m.values values slots agree;
    spans = λ bounds slots agree. sym (alike.spans bounds) ∙ m.spans bounds slots agree;
    variables = λ k below. alike.variables k (m.variables k below);
  }

  module _ (first count start : ℕ) (row : AreInRow terms first count start) where
    at_index : (values slots : List (Option ℤ)) → Agree terms values slots → (i : ℕ) (b : Bool) → nat_lt i count ≡ b
        → (if b then variable_value values (start + i) else None) ≡ (if b then variable_value slots (first + i) else None)
    at_index values slots agree i true e = sym (subst (λ o. HasTerm o values (variable_value slots (first + i))) (row i (ltb-true i count e)) (agree (first + i)))
    at_index values slots agree i false e = refl

    element_same : (values slots : List (Option ℤ)) → Agree terms values slots → (o : Option ℤ) → option_and_then (element_value values start count) o ≡ option_and_then (element_value slots first count) o
    element_same values slots agree None = refl
    element_same values slots agree (Some (pos i)) = at_index values slots agree i (nat_lt i count) refl
    element_same values slots agree (Some (negsuc i)) = refl

    row_of : (bounds slots : List (Option Span)) → AgreeWithin terms bounds slots → (i : ℕ) → i < count → bound_of bounds (start + i) ≡ bound_of slots (first + i)
    row_of bounds slots agree i l = sym (subst (λ o. HasBound o bounds (bound_of slots (first + i))) (row i l) (agree.each (first + i)))

    elements_same : (bounds slots : List (Option Span)) → AgreeWithin terms bounds slots → (low high : ℕ) → low ≤ high → high < count → elements bounds start low high ≡ elements slots first low high
    elements_same bounds slots agree low high l h =
        let blank : start + high < length bounds = agree.below (first + high) (start + high) (row high h) in
        let slot : first + high < length terms = slice_get_within terms (first + high) (term.Variable (start + high)) (row high h) in
        let long = agree.long in
        rows_same (high + 1 - low) (start + low) (first + low) bounds slots (omega (arith, blank, l)) (omega (arith, slot, long, l))
        (λ i k.
        let near : start + low + i ≡ start + (low + i) = omega arith in
        let far : first + (low + i) ≡ first + low + i = omega arith in
        ap (bound_of bounds) near ∙ row_of bounds slots agree (low + i) (omega (arith, k, l, h)) ∙ ap (bound_of slots) far)

    span_same : (bounds slots : List (Option Span)) → AgreeWithin terms bounds slots → (low high : ℤ) → pos 0 ≤ℤ low → high ≤ℤ (pos count -ℤ pos 1) → (b : Bool) → int_le low high ≡ b
        → (if b then joined_all (map cut_span (elements bounds start (unsigned_abs low) (unsigned_abs high))) else None) ≡ (if b then joined_all (map cut_span (elements slots first (unsigned_abs low) (unsigned_abs high))) else None)
    span_same bounds slots agree low high some most true e =
        let l : low ≤ℤ high = by_le low high e in
        ap (λ xs. joined_all (map cut_span xs)) (elements_same bounds slots agree (unsigned_abs low) (unsigned_abs high) (omega (arith, ints, some, l)) (omega (arith, ints, some, l, most)))
    span_same bounds slots agree low high some most false e = refl

    spans_same : (bounds slots : List (Option Span)) → AgreeWithin terms bounds slots → (o : Option Span) → option_and_then (element_span bounds start count) o ≡ option_and_then (element_span slots first count) o
    spans_same bounds slots agree None = refl
    spans_same bounds slots agree (Some s) =
        span_same bounds slots agree (int_max s.low (pos 0)) (int_min s.high (pos count -ℤ pos 1)) (omega (arith, ints, clamps)) (omega (arith, ints, clamps)) (int_le (int_max s.low (pos 0)) (int_min s.high (pos count -ℤ pos 1))) refl

    pub element_mirror : (e w : Expression) → IsMirror terms e w → IsMirror terms (Element first count e) (Element start count w)
    element_mirror e w m = record {
      values = λ values slots agree.
          ap (λ o. given (option_and_then (element_value values start count) o)) (m.values values slots agree) ∙ ap given (element_same values slots agree (value e slots));
      spans = λ bounds slots agree.
          ap (option_and_then (element_span bounds start count)) (m.spans bounds slots agree) ∙ spans_same bounds slots agree (interval e slots);
      variables = λ k below. ((λ i l. below (first + i) (start + i) (row i l)), m.variables k below);
    }

-- a term that is one of the list
pub known_number : (o : Option Term) (n : ℤ) → term_or_unknown o ≡ term.Number n → o ≡ Some (term.Number n)
known_number None n e = absurd cc
known_number (Some x) n e = ap Some e

pub known_variable : (o : Option Term) (i : ℕ) → term_or_unknown o ≡ term.Variable i → o ≡ Some (term.Variable i)
known_variable None i e = absurd cc
known_variable (Some x) i e = ap Some e

pub known_nothing : (o : Option Term) → term_or_unknown o ≡ term.Nothing → o ≡ Some term.Nothing
known_nothing None e = absurd cc
known_nothing (Some x) e = ap Some e
