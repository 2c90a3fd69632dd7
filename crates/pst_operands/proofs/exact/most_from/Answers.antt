use Rattle.std.proofs.Common.{◌≡◌, pos, ◌-ℤ◌, ◌≤ℤ◌, int_div, int_rem, arith, sym, subst}
use Rattle.std.proofs.lemmas.Int.{ints, to_z-of_z, quot-rem, rem_below}
use Rattle.pst_operands.proofs.Divisions.{near_negative, under_zero, down_less_by_negative, down_whole_by_negative}
use Rattle.pst_operands.proofs.exact.most_from.Goals as goal

pub returns-then-left-gt0 : goal.returns-then-left-gt0
returns-then-left-gt0 c x h =
    let f = c.ranges.a in
    let g = c.ranges.negative in
    let e : c.over-quotient.result ≡ int_div c.args.a c.args.negative = simp to_z-of_z at c.over-quotient.ensures.exact in
    let d : c.rest-left.result ≡ int_rem c.args.a c.args.negative = simp to_z-of_z at c.rest-left.ensures in
    let core = subst (λ q. x ≤ℤ (q -ℤ pos 1)) (sym e) (down_less_by_negative c.args.a c.args.negative (int_div c.args.a c.args.negative) (int_rem c.args.a c.args.negative) x (quot-rem c.args.a c.args.negative) c.requires (omega (arith, ints, d, c.if-left-gt0.true)) h) in
    omega (arith, ints, core, c.over-quotient.ensures.small.0, c.over-quotient.ensures.small.1)

pub returns-else-left-gt0 : goal.returns-else-left-gt0
returns-else-left-gt0 c x h =
    let f = c.ranges.a in
    let g = c.ranges.negative in
    let e : c.over-quotient.result ≡ int_div c.args.a c.args.negative = simp to_z-of_z at c.over-quotient.ensures.exact in
    let d : c.rest-left.result ≡ int_rem c.args.a c.args.negative = simp to_z-of_z at c.rest-left.ensures in
    let near = near_negative (int_rem c.args.a c.args.negative) c.args.negative (rem_below c.args.a c.args.negative (under_zero c.args.negative c.requires)) c.requires in
    let core = subst (λ q. x ≤ℤ q) (sym e) (down_whole_by_negative c.args.a c.args.negative (int_div c.args.a c.args.negative) (int_rem c.args.a c.args.negative) x (quot-rem c.args.a c.args.negative) c.requires near.0 h) in
    omega (arith, ints, core, c.over-quotient.ensures.small.0, c.over-quotient.ensures.small.1)
