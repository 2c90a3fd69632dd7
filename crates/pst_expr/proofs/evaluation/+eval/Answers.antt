use Rattle.std.proofs.Common.{◌≡◌, ◌+◌, ◌-◌, ◌/◌, ap, ◌∙◌, arith}
use Rattle.pst_expr.specs.Tree.{view}
use Rattle.pst_expr.specs.Value.{value}
use Rattle.pst_expr.specs.Left.{left_part, value_above}
use Rattle.pst_expr.proofs.LeftLemmas.{binary_is_deep}
use Rattle.pst_expr.proofs.Weight.{weight, weight_some, weight_below, lower_half, upper_half}
use Rattle.pst_expr.proofs.ValueLemmas.{value_by_part, value_above-add}
use Rattle.pst_expr.proofs.evaluation.+eval.Goals as goal

pub eval-eval-requires-in-Binary : goal.eval-eval-requires-in-Binary
eval-eval-requires-in-Binary t c =
    let e = view c.args.expr.now in
    let deep = binary_is_deep c.args.expr.now c.in-Binary.field-0 c.in-Binary.field-1 c.in-Binary.field-2 c.in-Binary.is in
    let d = c.decreases in
    let lighter = weight_below c.left_end-depth.result.0 e (omega (arith, c.left_end-depth.ensures.depth)) (omega (arith, c.left_end-depth.ensures.depth)) in
    (omega (arith, ap weight c.left_end-depth.ensures.part), tt)

pub eval-eval_above-requires : goal.eval-eval_above-requires
eval-eval_above-requires t c =
    let e = view c.args.expr.now in
    let n = c.left_end-depth.result.0 in
    let deep = binary_is_deep c.args.expr.now c.in-Binary.field-0 c.in-Binary.field-1 c.in-Binary.field-2 c.in-Binary.is in
    let d = c.decreases in
    (omega (arith, weight_some (left_part n e), weight_some e), (omega (arith, c.left_end-depth.ensures.depth), omega (arith, c.left_end-depth.ensures.depth)))

pub eval-returns-in-Binary : goal.eval-returns-in-Binary
eval-returns-in-Binary t c =
    let e = view c.args.expr.now in
    let n = c.left_end-depth.result.0 in
    c.eval_above.ensures ∙ ap (λ v. value_above n e v c.args.env.now) (c.eval-in-Binary.ensures ∙ ap (λ p. value p c.args.env.now) c.left_end-depth.ensures.part) ∙ value_by_part n e c.args.env.now

pub eval_above-eval_above-below-requires : goal.eval_above-eval_above-below-requires
eval_above-eval_above-below-requires t c =
    let half = lower_half c.args.depth (view c.args.expr.now) (view c.left_part-middle.result.now) c.if-depth-gt1.true c.requires.within c.left_part-middle.ensures in
    (omega (arith, half.0), (half.1, half.2))

pub eval_above-eval_above-requires : goal.eval_above-eval_above-requires
eval_above-eval_above-requires t c =
    let half = upper_half c.args.depth (view c.args.expr.now) c.if-depth-gt1.true c.requires.within in
    (omega (arith, half.0), (half.1, half.2))

pub eval_above-returns-then-depth-gt1 : goal.eval_above-returns-then-depth-gt1
eval_above-returns-then-depth-gt1 t c =
    let e = view c.args.expr.now in
    let m = c.args.depth / 2 in
    let n = c.args.depth - m in
    let whole : m + n ≡ c.args.depth = omega arith in
    let below = c.eval_above-below.ensures ∙ ap (λ p. value_above n p c.args.below c.args.env.now) c.left_part-middle.ensures in
    c.eval_above.ensures ∙ ap (λ v. value_above m e v c.args.env.now) below ∙ value_above-add m n e c.args.below c.args.env.now ∙ ap (λ k. value_above k e c.args.below c.args.env.now) whole
