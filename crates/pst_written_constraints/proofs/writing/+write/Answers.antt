use Rattle.std.proofs.Common.{◌≡◌, ◌+◌, ◌-◌, ◌/◌, ap, sym, subst, ◌∙◌, arith}
use Rattle.pst_expr.specs.Tree.{view}
use Rattle.pst_expr.specs.Left.{left_part}
use Rattle.pst_expr.proofs.LeftLemmas.{binary_is_deep, left_part-add}
use Rattle.pst_expr.proofs.Weight.{weight, weight_some, weight_below, lower_half, upper_half}
use Rattle.pst_written_constraints.specs.Terms.{IsMirror, Mirrors}
use Rattle.pst_written_constraints.proofs.writing.+write.Goals as goal

pub write-write-requires-in-Binary : goal.write-write-requires-in-Binary
write-write-requires-in-Binary t c =
    let e = view c.args.expr.now in
    let deep = binary_is_deep c.args.expr.now c.in-Binary.field-0 c.in-Binary.field-1 c.in-Binary.field-2 c.in-Binary.is in
    let d = c.decreases in
    let lighter = weight_below c.left_end-depth.result.0 e (omega (arith, c.left_end-depth.ensures.depth)) (omega (arith, c.left_end-depth.ensures.depth)) in
    (omega (arith, ap weight c.left_end-depth.ensures.part), tt)

pub write-write_above-requires : goal.write-write_above-requires
write-write_above-requires t c =
    let e = view c.args.expr.now in
    let n = c.left_end-depth.result.0 in
    let deep = binary_is_deep c.args.expr.now c.in-Binary.field-0 c.in-Binary.field-1 c.in-Binary.field-2 c.in-Binary.is in
    let d = c.decreases in
    let below : IsMirror c.args.terms.now (view c.left_end-depth.result.1.now) (view c.in-Some.below) = subst (Mirrors c.args.terms.now (view c.left_end-depth.result.1.now)) c.in-Some.is c.in_ok-write-in-Binary.ensures in (
      omega (arith, weight_some (left_part n e), weight_some e),
      (
        omega (arith, c.left_end-depth.ensures.depth),
        (omega (arith, c.left_end-depth.ensures.depth), subst (λ part. IsMirror c.args.terms.now part (view c.in-Some.below)) c.left_end-depth.ensures.part below),
      ),
    )

pub write_above-write_above-requires : goal.write_above-write_above-requires
write_above-write_above-requires t c =
    let e = view c.args.expr.now in
    let m = c.args.depth / 2 in
    let n = c.args.depth - m in
    let whole : m + n ≡ c.args.depth = omega arith in
    let half = lower_half c.args.depth e (view c.left_part-middle.result.now) c.if-depth-gt1.true c.requires.within c.left_part-middle.ensures in
    let part : left_part c.args.depth e ≡ left_part n (view c.left_part-middle.result.now) =
    ap (λ k. left_part k e) (sym whole) ∙ left_part-add m n e ∙ ap (left_part n) (sym c.left_part-middle.ensures) in
    (omega (arith, half.0), (half.1, (half.2, subst (λ p. IsMirror c.args.terms.now p (view c.args.below)) part c.requires.below)))

pub write_above-write_above-requires-in-Some : goal.write_above-write_above-requires-in-Some
write_above-write_above-requires-in-Some t c =
    let e = view c.args.expr.now in
    let half = upper_half c.args.depth e c.if-depth-gt1.true c.requires.within in
    let below : IsMirror c.args.terms.now (view c.left_part-middle.result.now) (view c.in-Some.below) = subst (Mirrors c.args.terms.now (view c.left_part-middle.result.now)) c.in-Some.is c.in_ok-write_above.ensures in
    (omega (arith, half.0), (half.1, (half.2, subst (λ p. IsMirror c.args.terms.now p (view c.in-Some.below)) c.left_part-middle.ensures below)))
