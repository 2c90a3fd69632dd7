use Rattle.std.proofs.Common.{◌-◌, ◌≤ℤ◌, int_le, IfSome, Option, FitsSigned, w64, sym, ap₂, subst, ◌∙◌, rules}
use Rattle.std.proofs.lemmas.List.Elements.{All-take, All-drop}
use Rattle.pst_expr.specs.declared.ranges.Span.{Span}
use Rattle.pst_domain.specs.Bounds.{AreUpright}
use Rattle.pst_domain.proofs.ElementCode.{lowest_is, highest_is, no_index, reversed, in_order, element_read}
use Rattle.pst_domain.proofs.element.element.Goals as goal

-- no bound is reversed
abbrev Upright : Option Span → Type 0
Upright b = IfSome b (λ s. s.low ≤ℤ s.high)

pub returns-then-low-high : goal.returns-then-low-high
returns-then-low-high c =
    let index = c.args.index in
    let f : FitsSigned w64 index.low = search rules in
    let g : FitsSigned w64 index.high = search rules in
    let p : FitsSigned w64 c.max-low.result = search rules in
    let q : FitsSigned w64 c.min-high.result = search rules in
    let low = lowest_is index.low c.max-low.result f c.max-low.ensures.value in
    let high = highest_is index.high c.min-high.result c.from.result c.args.count g c.ranges.count.fits c.from.ensures c.min-high.ensures.value in
    sym (no_index c.args.bounds.now c.args.first c.args.count index (ap₂ int_le (sym low) (sym high) ∙ reversed c.max-low.result c.min-high.result p q c.if-low-high.true))

pub joined_all-requires : goal.joined_all-requires
joined_all-requires c =
    let upright = subst AreUpright (sym c.spans-bounds.ensures) c.requires in
    All-take Upright (c.min-end.result - c.min-start.result) _ (All-drop Upright c.min-start.result c.spans-bounds.result.now upright)

pub returns : goal.returns
returns c =
    let index = c.args.index in
    let f : FitsSigned w64 index.low = search rules in
    let g : FitsSigned w64 index.high = search rules in
    let p : FitsSigned w64 c.max-low.result = search rules in
    let q : FitsSigned w64 c.min-high.result = search rules in
    let low = lowest_is index.low c.max-low.result f c.max-low.ensures.value in
    let high = highest_is index.high c.min-high.result c.from.result c.args.count g c.ranges.count.fits c.from.ensures c.min-high.ensures.value in
    let order = in_order c.max-low.result c.min-high.result p q c.if-low-high.false in
    c.joined_all.ensures ∙ element_read c.spans-bounds.result.now c.args.bounds.now c.args.first c.args.count index c.max-low.result c.min-high.result c.min-start.result c.min-end.result c.spans-bounds.ensures p q low high order c.min-start.ensures c.min-end.ensures
