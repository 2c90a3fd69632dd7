use Rattle.std.proofs.Common.{◌≡◌, ◌*ℤ◌, ◌≤ℤ◌, FitsSigned, w64, rules, arith, subst}
use Rattle.std.specs.Int.{w128}
use Rattle.std.proofs.lemmas.Int.{ints, to_z-of_z}
use Rattle.pst_operands.specs.Keeps.{Keeps}
use Rattle.pst_operands.proofs.Shifted.{low_with_greatest, low_with_least}
use Rattle.pst_operands.proofs.shifts.low_to_right.Goals as goal

pub returns-then-wanted-lt0 : goal.returns-then-wanted-lt0
returns-then-wanted-lt0 c x z p h k l g e =
    let f0 : FitsSigned w64 c.args.wanted.low = search rules in
    let f1 : FitsSigned w64 c.args.powers.high = search rules in
    let g0 : FitsSigned w128 c.times.result = search rules in
    let e0 : c.times.result ≡ c.args.wanted.low *ℤ c.args.powers.high = simp to_z-of_z at c.times.ensures in
    let cut = subst (λ v. Keeps (λ x. v ≤ℤ x) c.args.span c.at_least.result) e0 (simp to_z-of_z at c.at_least.ensures) in
    cut x h (low_with_greatest x z p g e c.args.powers.high c.args.wanted.low k.1 l.0 (omega (arith, ints, c.if-wanted-lt0.true)))

pub returns-else-wanted-lt0 : goal.returns-else-wanted-lt0
returns-else-wanted-lt0 c x z p h k l g e =
    let f0 : FitsSigned w64 c.args.wanted.low = search rules in
    let f1 : FitsSigned w64 c.args.powers.low = search rules in
    let g0 : FitsSigned w128 c.times-else-wanted-lt0.result = search rules in
    let e0 : c.times-else-wanted-lt0.result ≡ c.args.wanted.low *ℤ c.args.powers.low = simp to_z-of_z at c.times-else-wanted-lt0.ensures in
    let cut = subst (λ v. Keeps (λ x. v ≤ℤ x) c.args.span c.at_least-else-wanted-lt0.result) e0 (simp to_z-of_z at c.at_least-else-wanted-lt0.ensures) in
    cut x h (low_with_least x z p g e c.args.powers.low c.args.wanted.low k.0 l.0 (omega (arith, ints, c.if-wanted-lt0.false)))
