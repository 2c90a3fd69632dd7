-- Plain types without values.
use Rattle.std.proofs.Common.{◌≡◌, ◌↔◌, ℕ, ℤ, pos, negsuc, ◌≤ℤ◌, true, List, Option, arith, refl, sym, ap, subst, ◌∙◌, true≢false}
use Rattle.std.specs.Prelude.{Some, None, is_some}
use Rattle.std.specs.Option.{option_and_then}
use Rattle.std.proofs.lemmas.Int.{ints}
use Rattle.pst_base.specs.declared.position.Place.{Place}
use Rattle.pst_ast.specs.ExpressionTree.{ExprTree}
use Rattle.pst_ast.specs.SharedTree.{WidthTree, PlainTree, PlainInt, PlainBit, PlainBool, DomainTree, MakeDomain, TypePlain}
use Rattle.pst_ast.specs.DeclarationTree.{UnitTree}
use Rattle.pst_expr.specs.declared.ranges.Span.{Span}
use Rattle.pst_expr.specs.Spans.{IsInSpan}
use Rattle.pst_ast.specs.declared.environment.Environment.{Environment}
use Rattle.pst_ast.specs.Uses.{HasType}
use Rattle.pst_type_rules.specs.Constants.{IsConstant}
use Rattle.pst_type_rules.specs.Domains.{HasSpan, Int, IntOfWidth, Bit, BitOfWidth, Boolean, signed_span, unsigned_span, span, ranges_behind, ranges_of, IsKept, IsInType, OfPlain, IsBaseKnown, Plain, IsKnown}
use Rattle.pst_type_rules.specs.Places.{type_place}
use Rattle.pst_type_rules.specs.TypeRules.{UseBreaks, Empty}
use Rattle.pst_range_rules.specs.Spans.{have_common, spans_of}
use Rattle.pst_range_rules.specs.Types.{base_span, signed_of, unsigned_of, is_empty_plain}
use Rattle.pst_range_rules.specs.Widths.{width_by}
use Rattle.pst_range_rules.proofs.Bounds.{signed_upright, unsigned_upright}
use Rattle.pst_range_rules.proofs.Commons.{from_common, to_meet}
use Rattle.pst_range_rules.proofs.Emptiness.{all_upright, none_kept, nothing_kept}
use Rattle.pst_range_rules.proofs.Tests.{some_is, none_is_some}
use Rattle.pst_range_rules.proofs.WidthsJudged.{width_is, is_width}

-- a value of a plain type
record InPlain (units : List UnitTree) (names : List (List ℕ)) (at : Environment) (plain : PlainTree) (domain : Option DomainTree) (v : ℤ) : Type 0 where
  s : Span
  has : HasSpan units names at plain s
  inside : IsInSpan v s
  kept : IsKept units names at domain v

in_plain : (units : List UnitTree) (names : List (List ℕ)) (at : Environment) (plain : PlainTree) (domain : Option DomainTree) (v : ℤ) → IsInType units names at (TypePlain plain domain) v → InPlain units names at plain domain v
in_plain units names at _ _ _ (OfPlain plain domain s v has inside kept) = record { s = s; has = has; inside = inside; kept = kept }

known_plain : (units : List UnitTree) (names : List (List ℕ)) (at : Environment) (plain : PlainTree) (domain : Option DomainTree) → IsBaseKnown units names at (TypePlain plain domain) → (s : Span) × HasSpan units names at plain s
known_plain units names at _ _ (Plain plain domain s has) = (s, has)

at_least_self : (z : ℤ) → z ≤ℤ z
at_least_self z = omega (arith, ints)

module _ (units : List UnitTree) (names : List (List ℕ)) (at : Environment) (value : ExprTree → Option ℤ) (are : (expr : ExprTree) (v : ℤ) → (value expr ≡ Some v) ↔ IsConstant units names at expr v) where
  signed_is : (place : Place) (width : WidthTree) (s : Span) (o : Option ℤ) → width_by value width ≡ o → option_and_then signed_of o ≡ Some s → HasSpan units names at (PlainInt place (Some width)) s
  signed_is place width s None is e = absurd (none_is_some s e)
  signed_is place width s (Some (pos w)) is e =
      subst (λ (t : Span). HasSpan units names at (PlainInt place (Some width)) t) (some_is (signed_span w) s e) (IntOfWidth place width w (width_is units names at value are width (pos w) is))
  signed_is place width s (Some (negsuc n)) is e = absurd (none_is_some s e)

  unsigned_is : (place : Place) (width : WidthTree) (s : Span) (o : Option ℤ) → width_by value width ≡ o → option_and_then unsigned_of o ≡ Some s → HasSpan units names at (PlainBit place (Some width)) s
  unsigned_is place width s None is e = absurd (none_is_some s e)
  unsigned_is place width s (Some (pos w)) is e =
      subst (λ (t : Span). HasSpan units names at (PlainBit place (Some width)) t) (some_is (unsigned_span w) s e) (BitOfWidth place width w (width_is units names at value are width (pos w) is))
  unsigned_is place width s (Some (negsuc n)) is e = absurd (none_is_some s e)

  base_is : (plain : PlainTree) (s : Span) → base_span value plain ≡ Some s → HasSpan units names at plain s
  base_is (PlainInt place None) s e = subst (λ (t : Span). HasSpan units names at (PlainInt place None) t) (some_is (signed_span 32) s e) (Int place)
  base_is (PlainInt place (Some width)) s e = signed_is place width s (width_by value width) refl e
  base_is (PlainBit place None) s e = subst (λ (t : Span). HasSpan units names at (PlainBit place None) t) (some_is (unsigned_span 1) s e) (Bit place)
  base_is (PlainBit place (Some width)) s e = unsigned_is place width s (width_by value width) refl e
  base_is (PlainBool place) s e = subst (λ (t : Span). HasSpan units names at (PlainBool place) t) (some_is (span (pos 0) (pos 1)) s e) (Boolean place)

  is_base : (plain : PlainTree) (s : Span) → HasSpan units names at plain s → base_span value plain ≡ Some s
  is_base _ _ (Int place) = refl
  is_base _ _ (IntOfWidth place width w has) = ap (option_and_then signed_of) (is_width units names at value are width (pos w) has)
  is_base _ _ (Bit place) = refl
  is_base _ _ (BitOfWidth place width w has) = ap (option_and_then unsigned_of) (is_width units names at value are width (pos w) has)
  is_base _ _ (Boolean place) = refl

  has_values : (plain : PlainTree) (s : Span) → HasSpan units names at plain s → s.low ≤ℤ s.high
  has_values _ _ (Int place) = signed_upright 32
  has_values _ _ (IntOfWidth place width w has) = signed_upright w
  has_values _ _ (Bit place) = unsigned_upright 1
  has_values _ _ (BitOfWidth place width w has) = unsigned_upright w
  has_values _ _ (Boolean place) = omega (arith, ints)

  empty_by : (plain : PlainTree) (domain : Option DomainTree) (o : Option Span) → base_span value plain ≡ o → is_empty_plain o (is_some domain) (spans_of value (ranges_behind domain)) ≡ true
      → UseBreaks units names (HasType at (TypePlain plain domain)) (type_place (TypePlain plain domain)) 10
  empty_by plain domain None is e = absurd (true≢false (sym e))
  empty_by plain None (Some base) is e = absurd (true≢false (sym e))
  empty_by plain (Some (MakeDomain in_place left ranges right)) (Some base) is e =
      let domain = Some (MakeDomain in_place left ranges right) in
      Empty at (TypePlain plain domain)
      (record { base = Plain plain domain base (base_is plain base is); ranges = all_upright units names at value are (λ (v : ℤ). IsInSpan v base) (have_common base) (ranges_of ranges) e })
      (λ v there.
      let p = in_plain units names at plain domain v there in
      let same = some_is p.s base (sym (is_base plain p.s p.has) ∙ is) in
      none_kept units names at value are (λ (v : ℤ). IsInSpan v base) (have_common base) (ranges_of ranges) (λ s v a b. to_meet base s v a b) e v (subst (λ (s : Span). IsInSpan v s) same p.inside) p.kept)

  pub plain_empty_is : (plain : PlainTree) (domain : Option DomainTree) → is_empty_plain (base_span value plain) (is_some domain) (spans_of value (ranges_behind domain)) ≡ true
      → UseBreaks units names (HasType at (TypePlain plain domain)) (type_place (TypePlain plain domain)) 10
  plain_empty_is plain domain e = empty_by plain domain (base_span value plain) refl e

  pub plain_is_empty : (plain : PlainTree) (domain : Option DomainTree) → IsKnown units names at (TypePlain plain domain) → ((v : ℤ) → IsInType units names at (TypePlain plain domain) v → ⊥)
      → is_empty_plain (base_span value plain) (is_some domain) (spans_of value (ranges_behind domain)) ≡ true
  plain_is_empty plain None known none =
      let base = known_plain units names at plain None known.base in
      absurd (none base.0.low (OfPlain plain None base.0 base.0.low base.1 (at_least_self base.0.low, has_values plain base.0 base.1) tt))
  plain_is_empty plain (Some (MakeDomain in_place left ranges right)) known none =
      let domain = Some (MakeDomain in_place left ranges right) in
      let base = known_plain units names at plain domain known.base in
      ap (λ (o : Option Span). is_empty_plain o true (spans_of value (ranges_of ranges))) (is_base plain base.0 base.1)
      ∙ nothing_kept units names at value are (λ (v : ℤ). IsInSpan v base.0) (have_common base.0) (ranges_of ranges) (λ s e. from_common base.0 s e) known.ranges
      (λ v inside kept. none v (OfPlain plain domain base.0 v base.1 inside kept))
