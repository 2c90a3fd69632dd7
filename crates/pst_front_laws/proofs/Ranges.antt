-- The span that is found for a range is the one that it has by the rules.
use Rattle.std.proofs.Common.{◌≡◌, ◌↔◌, inl, refl, sym, subst, ap}
use Rattle.std.specs.Prelude.{ℤ, pos, ◌++◌, Option}
use Rattle.std.specs.List.{Contains}
use Rattle.std.specs.Option.{option_map_or}
use Rattle.pst_ast.specs.ExpressionTree.{ExprTree, RangeTree, RangeSingle, RangeBetween}
use Rattle.pst_expr.specs.declared.ranges.Span.{Span}
use Rattle.pst_ast.specs.declared.environment.Environment.{Environment}
use Rattle.pst_ast.specs.Uses.{Use, Judges, RangeEnd, whole_uses, end_uses, uses}
use Rattle.pst_type_rules.specs.Constants.{IsConstant}
use Rattle.pst_type_rules.specs.Domains.{span, IsSpanOf, Single, Between}
use Rattle.pst_terms.specs.Sources.{Sources}
use Rattle.pst_elab_rules.specs.Spans.{end_value, range_span}
use Rattle.pst_front_laws.specs.ValueLaws.{AreValued}
use Rattle.pst_front_laws.proofs.Elements.{In, to_right, to_contains}
use Rattle.pst_front_laws.proofs.Valued.{valued, value_found}

module _ (s : Sources) (are : AreValued s) (at : Environment) where
  abbrev Stands : RangeTree → Type 0
  Stands range = (u : Use) → Contains (end_uses at range) u → Contains (uses s.units) u

  end_is : (expr : ExprTree) (v : ℤ) → Contains (uses s.units) (Judges at RangeEnd expr) → IsConstant s.units s.names at expr v → end_value s expr ≡ v
  end_is expr v among c = ap (λ (o : Option ℤ). option_map_or (λ v. v) o (pos 0)) (value_found s are at RangeEnd expr among refl v c)

  -- the ends of a range are among the uses
  one : (expr : ExprTree) → Stands (RangeSingle expr) → Contains (uses s.units) (Judges at RangeEnd expr)
  one expr stands = stands (Judges at RangeEnd expr) (to_contains (whole_uses at RangeEnd expr) (Judges at RangeEnd expr) (inl refl))

  module _ (low high : ExprTree) (stands : (u : Use) → In u (whole_uses at RangeEnd low ++ whole_uses at RangeEnd high) → Contains (uses s.units) u) where
    lower : Contains (uses s.units) (Judges at RangeEnd low)
    lower = stands (Judges at RangeEnd low) (inl refl)

    upper : Contains (uses s.units) (Judges at RangeEnd high)
    upper = stands (Judges at RangeEnd high) (to_right (whole_uses at RangeEnd low) (whole_uses at RangeEnd high) (Judges at RangeEnd high) (inl refl))

  range_has : (range : RangeTree) → Stands range → IsSpanOf s.units s.names at range (range_span s range)
  range_has (RangeSingle expr) stands =
      let v = valued s are at RangeEnd expr (one expr stands) refl in
      subst (λ (z : ℤ). IsSpanOf s.units s.names at (RangeSingle expr) (span z z)) (sym (end_is expr v.0 (one expr stands) v.1)) (Single expr v.0 v.1)
  range_has (RangeBetween low dots high) stands =
      let inside = λ (u : Use) (there : In u (end_uses at (RangeBetween low dots high))). stands u (to_contains (end_uses at (RangeBetween low dots high)) u there) in
      let a = valued s are at RangeEnd low (lower low high inside) refl in
      let b = valued s are at RangeEnd high (upper low high inside) refl in
      subst (λ (z : ℤ). IsSpanOf s.units s.names at (RangeBetween low dots high) (span z (end_value s high))) (sym (end_is low a.0 (lower low high inside) a.1))
      (subst (λ (z : ℤ). IsSpanOf s.units s.names at (RangeBetween low dots high) (span a.0 z)) (sym (end_is high b.0 (upper low high inside) b.1)) (Between low high dots a.0 b.0 a.1 b.1))

  range_is : (range : RangeTree) (found : Span) → IsSpanOf s.units s.names at range found → Stands range → range_span s range ≡ found
  range_is _ _ (Single expr v c) stands = ap (λ (z : ℤ). span z z) (end_is expr v (one expr stands) c)
  range_is _ _ (Between low high dots a b c d) stands =
      let inside = λ (u : Use) (there : In u (end_uses at (RangeBetween low dots high))). stands u (to_contains (end_uses at (RangeBetween low dots high)) u there) in
      λ i. span (end_is low a (lower low high inside) c i) (end_is high b (upper low high inside) d i)

pub ranges_are_found : (s : Sources) (at : Environment) (range : RangeTree) (found : Span) → AreValued s → ((u : Use) → Contains (end_uses at range) u → Contains (uses s.units) u)
    → (range_span s range ≡ found) ↔ IsSpanOf s.units s.names at range found
ranges_are_found s at range found are stands = (λ e. subst (IsSpanOf s.units s.names at range) e (range_has s are at range stands), λ has. range_is s are at range found has stands)
