use Rattle.std.proofs.Common.{◌≡◌, pos, ◌+ℤ◌, ◌≤ℤ◌, int_div, int_rem, arith, sym, subst}
use Rattle.std.proofs.lemmas.Int.{ints, to_z-of_z, quot-rem, rem_below}
use Rattle.pst_operands.proofs.Divisions.{near_positive, above_zero, up_more, up_whole}
use Rattle.pst_operands.proofs.exact.least_from.Goals as goal

pub returns-then-left-gt0 : goal.returns-then-left-gt0
returns-then-left-gt0 c x h =
    let f = c.ranges.a in
    let g = c.ranges.positive in
    let e : c.over-quotient.result ≡ int_div c.args.a c.args.positive = simp to_z-of_z at c.over-quotient.ensures.exact in
    let d : c.rest-left.result ≡ int_rem c.args.a c.args.positive = simp to_z-of_z at c.rest-left.ensures in
    let core = subst (λ q. (q +ℤ pos 1) ≤ℤ x) (sym e) (up_more c.args.a c.args.positive (int_div c.args.a c.args.positive) (int_rem c.args.a c.args.positive) x (quot-rem c.args.a c.args.positive) c.requires (omega (arith, ints, d, c.if-left-gt0.true)) h) in
    omega (arith, ints, core, c.over-quotient.ensures.small.0, c.over-quotient.ensures.small.1)

pub returns-else-left-gt0 : goal.returns-else-left-gt0
returns-else-left-gt0 c x h =
    let f = c.ranges.a in
    let g = c.ranges.positive in
    let e : c.over-quotient.result ≡ int_div c.args.a c.args.positive = simp to_z-of_z at c.over-quotient.ensures.exact in
    let d : c.rest-left.result ≡ int_rem c.args.a c.args.positive = simp to_z-of_z at c.rest-left.ensures in
    let near = near_positive (int_rem c.args.a c.args.positive) c.args.positive (rem_below c.args.a c.args.positive (above_zero c.args.positive c.requires)) c.requires in
    let core = subst (λ q. q ≤ℤ x) (sym e) (up_whole c.args.a c.args.positive (int_div c.args.a c.args.positive) (int_rem c.args.a c.args.positive) x (quot-rem c.args.a c.args.positive) c.requires near.0 h) in
    omega (arith, ints, core, c.over-quotient.ensures.small.0, c.over-quotient.ensures.small.1)
