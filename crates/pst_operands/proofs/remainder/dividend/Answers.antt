use Rattle.std.proofs.Common.{◌≡◌, FitsSigned, w64, Some, rules, arith, subst}
use Rattle.std.proofs.lemmas.Int.{ints, to_z-of_z}
use Rattle.pst_num.specs.Arithmetic.{remainder_of}
use Rattle.pst_operands.proofs.remainder.dividend.Goals as goal

pub returns : goal.returns
returns c x y z h k l e =
    let f0 : FitsSigned w64 c.args.divisor.low = search rules in
    let f1 : FitsSigned w64 c.args.divisor.high = search rules in
    let is : y ≡ c.args.divisor.low = omega (arith, ints, k.0, k.1, c.if-divisor.false) in
    let keeps = simp to_z-of_z at c.by_point.ensures in
    keeps x z (c.by_sign-cut.ensures x y z h k l e) l (subst (λ v. remainder_of x v ≡ Some z) is e)
