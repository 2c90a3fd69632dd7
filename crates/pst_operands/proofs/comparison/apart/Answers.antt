use Rattle.std.proofs.Common.{◌≡◌, FitsSigned, w64, rules, arith}
use Rattle.std.proofs.lemmas.Int.{ints}
use Rattle.pst_operands.proofs.comparison.apart.Goals as goal

pub returns-then-other : goal.returns-then-other
returns-then-other c x y h k n =
    let f0 : FitsSigned w64 c.args.other.low = search rules in
    let f1 : FitsSigned w64 c.args.other.high = search rules in
    c.other_than.ensures x h (λ e.
    let p : x ≡ y = omega (arith, ints, e, k.0, k.1, c.if-other.true) in
    n p)
