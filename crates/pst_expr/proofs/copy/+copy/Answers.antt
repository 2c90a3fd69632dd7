use Rattle.std.proofs.Common.{◌≡◌, ◌+◌, ◌-◌, ◌/◌, IfOk, ap, subst, ◌∙◌, arith}
use Rattle.pst_expr.specs.Tree.{view}
use Rattle.pst_expr.specs.Left.{left_part, with_left_part}
use Rattle.pst_expr.proofs.LeftLemmas.{binary_is_deep}
use Rattle.pst_expr.proofs.Weight.{weight, weight_some, weight_below, lower_half, upper_half}
use Rattle.pst_expr.proofs.CopyLemmas.{with_own_part, with_left_part-add}
use Rattle.pst_expr.proofs.copy.+copy.Goals as goal

pub copy_of-copy_of-requires-in-Binary : goal.copy_of-copy_of-requires-in-Binary
copy_of-copy_of-requires-in-Binary t c =
    let e = view c.args.expr.now in
    let deep = binary_is_deep c.args.expr.now c.in-Binary.field-0 c.in-Binary.field-1 c.in-Binary.field-2 c.in-Binary.is in
    let d = c.decreases in
    let lighter = weight_below c.left_end-depth.result.0 e (omega (arith, c.left_end-depth.ensures.depth)) (omega (arith, c.left_end-depth.ensures.depth)) in
    (omega (arith, ap weight c.left_end-depth.ensures.part), tt)

pub copy_of-copy_above-requires : goal.copy_of-copy_above-requires
copy_of-copy_above-requires t c =
    let e = view c.args.expr.now in
    let n = c.left_end-depth.result.0 in
    let deep = binary_is_deep c.args.expr.now c.in-Binary.field-0 c.in-Binary.field-1 c.in-Binary.field-2 c.in-Binary.is in
    let d = c.decreases in
    (omega (arith, weight_some (left_part n e), weight_some e), (omega (arith, c.left_end-depth.ensures.depth), omega (arith, c.left_end-depth.ensures.depth)))

pub copy_of-returns-in_ok-copy_of-in-Binary : goal.copy_of-returns-in_ok-copy_of-in-Binary
copy_of-returns-in_ok-copy_of-in-Binary t c =
    let e = view c.args.expr.now in
    let n = c.left_end-depth.result.0 in
    subst (λ x. IfOk c.copy_above.result (λ copy. view copy ≡ x)) (ap (with_left_part n e) (c.in_ok-copy_of-in-Binary.ensures ∙ c.left_end-depth.ensures.part) ∙ with_own_part n e) c.copy_above.ensures

pub copy_above-copy_above-requires : goal.copy_above-copy_above-requires
copy_above-copy_above-requires t c =
    let half = lower_half c.args.depth (view c.args.expr.now) (view c.left_part-middle.result.now) c.if-depth-gt1.true c.requires.within c.left_part-middle.ensures in
    (omega (arith, half.0), (half.1, half.2))

pub copy_above-copy_above-requires-then-depth-gt1 : goal.copy_above-copy_above-requires-then-depth-gt1
copy_above-copy_above-requires-then-depth-gt1 t c =
    let half = upper_half c.args.depth (view c.args.expr.now) c.if-depth-gt1.true c.requires.within in
    (omega (arith, half.0), (half.1, half.2))

pub copy_above-returns-then-depth-gt1 : goal.copy_above-returns-then-depth-gt1
copy_above-returns-then-depth-gt1 t c =
    let e = view c.args.expr.now in
    let m = c.args.depth / 2 in
    let n = c.args.depth - m in
    let whole : m + n ≡ c.args.depth = omega arith in
    let below = c.in_ok-copy.ensures ∙ ap (λ p. with_left_part n p (view c.args.below)) c.left_part-middle.ensures in
    subst (λ x. IfOk c.copy_above-then-depth-gt1.result (λ copy. view copy ≡ x)) (ap (with_left_part m e) below ∙ with_left_part-add m n e (view c.args.below) ∙ ap (λ k. with_left_part k e (view c.args.below)) whole) c.copy_above-then-depth-gt1.ensures
