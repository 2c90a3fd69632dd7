use Rattle.std.proofs.Common.{◌≡◌, pos, ◌+ℤ◌, ◌*ℤ◌, ◌<ℤ◌, FitsSigned, w64, rules, arith, sym, subst}
use Rattle.std.specs.Int.{w128}
use Rattle.std.proofs.lemmas.Int.{ints, to_z-of_z}
use Rattle.pst_operands.specs.Keeps.{Keeps}
use Rattle.pst_operands.proofs.Exactly.{exact}
use Rattle.pst_operands.proofs.Shifted.{high_with_least, high_with_greatest}
use Rattle.pst_operands.proofs.shifts.high_to_right.Goals as goal

pub returns-then-next-lt0 : goal.returns-then-next-lt0
returns-then-next-lt0 c x z p h k l g e =
    let f0 : FitsSigned w64 c.args.wanted.high = search rules in
    let f1 : FitsSigned w64 c.args.powers.low = search rules in
    let f2 : FitsSigned w64 c.in-Some.next = search rules in
    let g0 : FitsSigned w128 c.times.result = search rules in
    let n : c.in-Some.next ≡ c.args.wanted.high +ℤ pos 1 = sym (exact (c.args.wanted.high +ℤ pos 1) c.in-Some.next (sym (simp to_z-of_z at c.in-Some.ensures))) in
    let e0 : c.times.result ≡ c.in-Some.next *ℤ c.args.powers.low = simp to_z-of_z at c.times.ensures in
    let cut = subst (λ v. Keeps (λ x. x <ℤ v) c.args.span c.below.result) e0 (simp to_z-of_z at c.below.ensures) in
    cut x h (high_with_least x z p g e c.args.powers.low c.args.wanted.high c.in-Some.next k.0 l.1 n (omega (arith, ints, c.if-next-lt0.true)))

pub returns-else-next-lt0 : goal.returns-else-next-lt0
returns-else-next-lt0 c x z p h k l g e =
    let f0 : FitsSigned w64 c.args.wanted.high = search rules in
    let f1 : FitsSigned w64 c.args.powers.high = search rules in
    let f2 : FitsSigned w64 c.in-Some.next = search rules in
    let g0 : FitsSigned w128 c.times-else-next-lt0.result = search rules in
    let n : c.in-Some.next ≡ c.args.wanted.high +ℤ pos 1 = sym (exact (c.args.wanted.high +ℤ pos 1) c.in-Some.next (sym (simp to_z-of_z at c.in-Some.ensures))) in
    let e0 : c.times-else-next-lt0.result ≡ c.in-Some.next *ℤ c.args.powers.high = simp to_z-of_z at c.times-else-next-lt0.ensures in
    let cut = subst (λ v. Keeps (λ x. x <ℤ v) c.args.span c.below-else-next-lt0.result) e0 (simp to_z-of_z at c.below-else-next-lt0.ensures) in
    cut x h (high_with_greatest x z p g e c.args.powers.high c.args.wanted.high c.in-Some.next k.1 l.1 n (omega (arith, ints, c.if-next-lt0.false)))
