use Rattle.std.proofs.Common.{◌≡◌, ◌≤ℤ◌, FitsSigned, w64, rules, arith, subst}
use Rattle.std.proofs.lemmas.Int.{ints}
use Rattle.pst_operands.proofs.Compared.{below_other}
use Rattle.pst_operands.proofs.cuts.other_than.Goals as goal

pub returns-then-span-number-2 : goal.returns-then-span-number-2
returns-then-span-number-2 c x h n =
    let f0 = c.ranges.number in
    let f1 : FitsSigned w64 c.args.span.high = search rules in
    let e : c.args.span.high ≡ c.args.number = omega (arith, ints, c.if-span-number-2.true) in
    let less = below_other x c.args.number (subst (λ v. x ≤ℤ v) e h.1) n in
    c.below.ensures x h (omega (arith, ints, c.from-then-span-number-2.ensures, less))
