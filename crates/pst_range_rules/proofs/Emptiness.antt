-- Ranges that have none of some values.
use Rattle.std.proofs.Common.{◌≡◌, ◌↔◌, ℕ, zero, suc, ℤ, ◌≤ℤ◌, int_le, Bool, true, false, not, List, [], ◌∷◌, map, Option, arith, refl, sym, ap, subst, ◌∙◌, true≢false}
use Rattle.std.specs.Prelude.{Some, None}
use Rattle.std.specs.List.{list_all, Contains}
use Rattle.std.proofs.lemmas.Bool.{and_from, and_parts, both_ways, false_from_ne_true, not-true, not_from_false}
use Rattle.pst_ast.specs.ExpressionTree.{ExprTree, RangeTree}
use Rattle.pst_ast.specs.DeclarationTree.{UnitTree}
use Rattle.pst_expr.specs.declared.ranges.Span.{Span}
use Rattle.pst_expr.specs.Spans.{IsInSpan}
use Rattle.pst_ast.specs.declared.environment.Environment.{Environment}
use Rattle.pst_type_rules.specs.Constants.{IsConstant}
use Rattle.pst_type_rules.specs.Domains.{IsSpanOf, IsInRanges}
use Rattle.pst_range_rules.specs.declared.span.RangeSpan.{RangeSpan}
use Rattle.pst_range_rules.specs.Spans.{range_span, span_of, spans_of}
use Rattle.pst_range_rules.specs.Types.{keeps_nothing, misses}
use Rattle.pst_range_rules.proofs.ArmsJudged.{from_span, to_span}
use Rattle.pst_range_rules.proofs.Fronts.{is_first, is_behind}
use Rattle.pst_range_rules.proofs.Tests.{by_le, le_test, some_is}

module _ {X Y : Type 0} (g : X → Y) (test : Y → Bool) where
  pub all_from : (xs : List X) → ((x : X) → Contains xs x → test (g x) ≡ true) → list_all test (map g xs) ≡ true
  all_from [] h = refl
  all_from (x ∷ more) h = and_from (test (g x)) (list_all test (map g more)) (h x (is_first x more)) (all_from more (λ y c. h y (is_behind x y more c)))

  pub each_of : (xs : List X) → list_all test (map g xs) ≡ true → (x : X) → Contains xs x → test (g x) ≡ true
  each_of [] e x (n, within, there) = absurd (omega (arith, within))
  each_of (y ∷ more) e x (zero, within, there) = subst (λ (z : X). test (g z) ≡ true) there (and_parts (test (g y)) (list_all test (map g more)) e).0
  each_of (y ∷ more) e x (suc n, within, there) = each_of more (and_parts (test (g y)) (list_all test (map g more)) e).1 x (n, omega (arith, within), there)

module _ (units : List UnitTree) (names : List (List ℕ)) (at : Environment) (value : ExprTree → Option ℤ) (are : (expr : ExprTree) (v : ℤ) → (value expr ≡ Some v) ↔ IsConstant units names at expr v) where
  module _ (Base : ℤ → Type 0) (has : Span → Bool) (ranges : List RangeTree) where
    record Missed (r : RangeTree) : Type 0 where
      pub span : Span
      pub span_is : span_of value r ≡ Some span
      pub upright : span.low ≤ℤ span.high
      pub none : has span ≡ false

    missed : (r : RangeTree) (o : Option Span) → span_of value r ≡ o → misses has o ≡ true → Missed r
    missed r None is e = absurd (true≢false (sym e))
    missed r (Some s) is e =
        let both = and_parts (int_le s.low s.high) (not (has s)) e in record { span = s; span_is = is; upright = by_le s.low s.high both.0; none = not-true (has s) both.1 }

    missed_in : keeps_nothing has (spans_of value ranges) ≡ true → (r : RangeTree) → Contains ranges r → Missed r
    missed_in e r among = missed r (span_of value r) refl (each_of (range_span value) (λ (x : RangeSpan). misses has x.span) ranges e r among)

    pub all_upright : keeps_nothing has (spans_of value ranges) ≡ true → (r : RangeTree) → Contains ranges r → (s : Span) × IsSpanOf units names at r s × (s.low ≤ℤ s.high)
    all_upright e r among = let m = missed_in e r among in (m.span, from_span units names at value are r m.span m.span_is, m.upright)

    pub none_kept : ((s : Span) (v : ℤ) → Base v → IsInSpan v s → has s ≡ true) → keeps_nothing has (spans_of value ranges) ≡ true → (v : ℤ) → Base v → IsInRanges units names at ranges v → ⊥
    none_kept is_has e v base kept =
        let m = missed_in e kept.range kept.among in
        let same = some_is m.span kept.span (sym m.span_is ∙ to_span units names at value are kept.range kept.span kept.is) in
        both_ways (has m.span) m.none (is_has m.span v base (subst (λ (s : Span). IsInSpan v s) (sym same) kept.inside))

    pub nothing_kept : ((s : Span) → has s ≡ true → (v : ℤ) × Base v × IsInSpan v s) → ((r : RangeTree) → Contains ranges r → (s : Span) × IsSpanOf units names at r s × (s.low ≤ℤ s.high))
        → ((v : ℤ) → Base v → IsInRanges units names at ranges v → ⊥) → keeps_nothing has (spans_of value ranges) ≡ true
    nothing_kept has_is upright none = all_from (range_span value) (λ (x : RangeSpan). misses has x.span) ranges (λ r among.
        let u = upright r among in
        let empty = false_from_ne_true (has u.0) (λ e. let w = has_is u.0 e in none w.0 w.1 (record { range = r; among = among; span = u.0; is = u.1; inside = w.2 })) in
        ap (misses has) (to_span units names at value are r u.0 u.1) ∙ and_from (int_le u.0.low u.0.high) (not (has u.0)) (le_test u.0.low u.0.high u.2) (not_from_false (has u.0) empty))
