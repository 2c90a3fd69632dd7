-- `x in [a..b, c]` is true exactly where the value of x is in one of the ranges.
use Rattle.std.proofs.Common.{◌≡◌, ◌∙◌}
use Rattle.std.specs.Prelude.{◌↔◌, ℤ, List, [], ◌∷◌, Option, Some}
use Rattle.pst_base.specs.declared.position.Place.{Place}
use Rattle.pst_ast.specs.ExpressionTree.{ExprTree, ExprIn, RangesTree, RangeTree, RangeSingle, RangeBetween}
use Rattle.pst_expr.specs.declared.ranges.Span.{Span}
use Rattle.pst_model.specs.ConstraintTree.{SlotTree}
use Rattle.pst_type_rules.specs.Domains.{ranges_of}
use Rattle.pst_terms.specs.Laws.{RewritingKeepsValues}
use Rattle.pst_terms.specs.Sources.{Sources}
use Rattle.pst_terms.specs.Readings.{Setting, reading_of, expr_term}
use Rattle.pst_terms.specs.Values.{term_value}
use Rattle.pst_elab_rules.specs.Meaning.{IsRangeOf, AreRangesOf, IsInOne, RewritingsMean}
use Rattle.pst_set_meaning.specs.Holding.{value_there, IsTrueValue}
use Rattle.pst_set_meaning.specs.Laws.{IsRangeThere, AreRangesThere}
use Rattle.pst_set_meaning.proofs.Items.{true_means}

module _ (m : RewritingsMean) (k : RewritingKeepsValues) (f : SlotTree → Option ℤ) (s : Sources) (setting : Setting) where
  same : (expr : ExprTree) → term_value f (expr_term s setting expr) ≡ value_there f s setting expr
  same expr = k f (reading_of s setting) expr

  range_of : (r : RangeTree) (span : Span) → IsRangeThere f s setting r span → IsRangeOf f (reading_of s setting) r span
  range_of (RangeSingle expr) span is = (same expr ∙ is.0, is.1)
  range_of (RangeBetween low dots high) span is = (same low ∙ is.0, same high ∙ is.1)

  ranges_are : (ranges : List RangeTree) (spans : List Span) → AreRangesThere f s setting ranges spans → AreRangesOf f (reading_of s setting) ranges spans
  ranges_are [] [] are = tt
  ranges_are [] (span ∷ spans) are = absurd are
  ranges_are (r ∷ ranges) [] are = absurd are
  ranges_are (r ∷ ranges) (span ∷ spans) are = (range_of r span are.0, ranges_are ranges spans are.1)

  pub ranges_mean : (x : ExprTree) (word opening close : Place) (ranges : RangesTree) (v : ℤ) (spans : List Span) → value_there f s setting x ≡ Some v → AreRangesThere f s setting (ranges_of ranges) spans
      → IsTrueValue (value_there f s setting (ExprIn x word opening ranges close)) ↔ IsInOne v spans
  ranges_mean x word opening close ranges v spans known are =
      let whole = ExprIn x word opening ranges close in
      let means = true_means f (expr_term s setting whole) (value_there f s setting whole) (same whole) in
      let inside = m.inside f (reading_of s setting) (expr_term s setting x) v ranges spans (same x ∙ known) (ranges_are (ranges_of ranges) spans are) in
      ((λ is. inside.0 (means.1 is)), (λ is. means.0 (inside.1 is)))
