use Rattle.std.proofs.Common.{◌≡◌, ◌+◌, ◌-◌, ◌/◌, ap, ◌∙◌, arith}
use Rattle.pst_expr.specs.Tree.{view}
use Rattle.pst_expr.specs.Left.{left_part}
use Rattle.pst_expr.proofs.LeftLemmas.{binary_is_deep}
use Rattle.pst_expr.proofs.Weight.{weight, weight_some, weight_below, lower_half, upper_half}
use Rattle.pst_domain.specs.Interval.{interval_above}
use Rattle.pst_domain.proofs.IntervalParts.{interval_of_part, interval_above-add}
use Rattle.pst_domain.proofs.interval.+interval.Goals as goal

pub interval-interval-requires-in-Binary : goal.interval-interval-requires-in-Binary
interval-interval-requires-in-Binary t c =
    let e = view c.args.expr.now in
    let deep = binary_is_deep c.args.expr.now c.in-Binary.field-0 c.in-Binary.field-1 c.in-Binary.field-2 c.in-Binary.is in
    let d = c.decreases in
    let lighter = weight_below c.left_end-depth.result.0 e (omega (arith, c.left_end-depth.ensures.depth)) (omega (arith, c.left_end-depth.ensures.depth)) in
    (omega (arith, ap weight c.left_end-depth.ensures.part), c.requires)

pub interval-interval_above-requires : goal.interval-interval_above-requires
interval-interval_above-requires t c =
    let e = view c.args.expr.now in
    let n = c.left_end-depth.result.0 in
    let deep = binary_is_deep c.args.expr.now c.in-Binary.field-0 c.in-Binary.field-1 c.in-Binary.field-2 c.in-Binary.is in
    let d = c.decreases in
    (omega (arith, weight_some (left_part n e), weight_some e), (c.requires, (omega (arith, c.left_end-depth.ensures.depth), omega (arith, c.left_end-depth.ensures.depth))))

pub interval-interval_above-requires-in-Binary : goal.interval-interval_above-requires-in-Binary
interval-interval_above-requires-in-Binary t c =
    let e = view c.args.expr.now in
    let n = c.left_end-depth.result.0 in
    let deep = binary_is_deep c.args.expr.now c.in-Binary.field-0 c.in-Binary.field-1 c.in-Binary.field-2 c.in-Binary.is in
    let d = c.decreases in
    (omega (arith, weight_some (left_part n e), weight_some e), (c.requires, (omega (arith, c.left_end-depth.ensures.depth), omega (arith, c.left_end-depth.ensures.depth))))

pub interval-returns-in-Some : goal.interval-returns-in-Some
interval-returns-in-Some t c =
    c.interval_above.ensures ∙ interval_of_part c.left_end-depth.result.0 (view c.args.expr.now) _ c.in-Some.below c.args.bounds.now c.in-Some.ensures c.left_end-depth.ensures.part

pub interval-returns-in_default : goal.interval-returns-in_default
interval-returns-in_default t c =
    c.interval_above-in-Binary.ensures ∙ interval_of_part c.left_end-depth.result.0 (view c.args.expr.now) _ c.interval-in-Binary.result c.args.bounds.now c.interval-in-Binary.ensures c.left_end-depth.ensures.part

pub interval_above-interval_above-below-requires : goal.interval_above-interval_above-below-requires
interval_above-interval_above-below-requires t c =
    let half = lower_half c.args.depth (view c.args.expr.now) (view c.left_part-middle.result.now) c.if-depth-gt1.true c.requires.within c.left_part-middle.ensures in
    (omega (arith, half.0), (c.requires.upright, (half.1, half.2)))

pub interval_above-interval_above-requires : goal.interval_above-interval_above-requires
interval_above-interval_above-requires t c =
    let half = upper_half c.args.depth (view c.args.expr.now) c.if-depth-gt1.true c.requires.within in
    (omega (arith, half.0), (c.requires.upright, (half.1, half.2)))

pub interval_above-returns-then-depth-gt1 : goal.interval_above-returns-then-depth-gt1
interval_above-returns-then-depth-gt1 t c =
    let e = view c.args.expr.now in
    let m = c.args.depth / 2 in
    let n = c.args.depth - m in
    let whole : m + n ≡ c.args.depth = omega arith in
    let below = c.interval_above-below.ensures ∙ ap (λ p. interval_above n p c.args.below c.args.bounds.now) c.left_part-middle.ensures in
    c.interval_above.ensures ∙ ap (λ r. interval_above m e r c.args.bounds.now) below ∙ interval_above-add m n e c.args.below c.args.bounds.now ∙ ap (λ k. interval_above k e c.args.below c.args.bounds.now) whole
