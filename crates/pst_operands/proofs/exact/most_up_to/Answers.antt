use Rattle.std.proofs.Common.{◌≡◌, pos, ◌-ℤ◌, ◌≤ℤ◌, int_div, int_rem, arith, sym, subst}
use Rattle.std.proofs.lemmas.Int.{ints, to_z-of_z, quot-rem, rem_below}
use Rattle.pst_operands.proofs.Divisions.{near_positive, above_zero, down_less, down_whole}
use Rattle.pst_operands.proofs.exact.most_up_to.Goals as goal

pub returns-then-left-lt0 : goal.returns-then-left-lt0
returns-then-left-lt0 c x h =
    let f = c.ranges.a in
    let g = c.ranges.positive in
    let e : c.over-quotient.result ≡ int_div c.args.a c.args.positive = simp to_z-of_z at c.over-quotient.ensures.exact in
    let d : c.rest-left.result ≡ int_rem c.args.a c.args.positive = simp to_z-of_z at c.rest-left.ensures in
    let core = subst (λ q. x ≤ℤ (q -ℤ pos 1)) (sym e) (down_less c.args.a c.args.positive (int_div c.args.a c.args.positive) (int_rem c.args.a c.args.positive) x (quot-rem c.args.a c.args.positive) c.requires (omega (arith, ints, d, c.if-left-lt0.true)) h) in
    omega (arith, ints, core, c.over-quotient.ensures.small.0, c.over-quotient.ensures.small.1)

pub returns-else-left-lt0 : goal.returns-else-left-lt0
returns-else-left-lt0 c x h =
    let f = c.ranges.a in
    let g = c.ranges.positive in
    let e : c.over-quotient.result ≡ int_div c.args.a c.args.positive = simp to_z-of_z at c.over-quotient.ensures.exact in
    let d : c.rest-left.result ≡ int_rem c.args.a c.args.positive = simp to_z-of_z at c.rest-left.ensures in
    let near = near_positive (int_rem c.args.a c.args.positive) c.args.positive (rem_below c.args.a c.args.positive (above_zero c.args.positive c.requires)) c.requires in
    let core = subst (λ q. x ≤ℤ q) (sym e) (down_whole c.args.a c.args.positive (int_div c.args.a c.args.positive) (int_rem c.args.a c.args.positive) x (quot-rem c.args.a c.args.positive) c.requires near.1 h) in
    omega (arith, ints, core, c.over-quotient.ensures.small.0, c.over-quotient.ensures.small.1)
