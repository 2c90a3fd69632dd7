use Rattle.std.proofs.Common.{FitsSigned, w64, rules, arith}
use Rattle.std.proofs.lemmas.Int.{ints}
use Rattle.pst_operands.proofs.Masks.{rest_at_least, rest_at_most}
use Rattle.pst_operands.proofs.remainder.by_sign.Goals as goal

pub returns-then-wanted-gt0 : goal.returns-then-wanted-gt0
returns-then-wanted-gt0 c x y z h k l e =
    let f0 : FitsSigned w64 c.args.wanted.low = search rules in
    let q = rest_at_least x y z c.args.wanted.low e (omega (arith, ints, c.if-wanted-gt0.true)) l.0 in
    c.at_least.ensures x h (omega (arith, ints, c.from.ensures, q))

pub returns-then-wanted-lt0 : goal.returns-then-wanted-lt0
returns-then-wanted-lt0 c x y z h k l e =
    let f0 : FitsSigned w64 c.args.wanted.high = search rules in
    let q = rest_at_most x y z c.args.wanted.high e (omega (arith, ints, c.if-wanted-lt0.true)) l.1 in
    c.at_most.ensures x h (omega (arith, ints, c.from-then-wanted-lt0.ensures, q))
