use Rattle.std.proofs.Common.{FitsSigned, w64, rules, arith}
use Rattle.std.specs.Int.{w128}
use Rattle.std.proofs.lemmas.Int.{ints}
use Rattle.pst_operands.proofs.Residues.{over_rest, under_rest}
use Rattle.pst_operands.proofs.Dividends.{some_modulus}
use Rattle.pst_operands.proofs.Masks.{rest_found}
use Rattle.pst_operands.proofs.remainder.divisor.Goals as goal

pub returns-then-wanted-le0 : goal.returns-then-wanted-le0
returns-then-wanted-le0 c x y z h k l e =
    c.other_than-cut.ensures y k (some_modulus x y z e)

pub returns-then-cut-ge0 : goal.returns-then-cut-ge0
returns-then-cut-ge0 c x y z h k l e =
    let f0 : FitsSigned w64 c.args.wanted.low = search rules in
    let f1 : FitsSigned w64 c.other_than-cut.result.low = search rules in
    let at = c.other_than-cut.ensures y k (some_modulus x y z e) in
    let q = over_rest x y c.args.wanted.low (some_modulus x y z e) (omega (arith, ints, at.0, c.if-cut-ge0.true)) (rest_found x y z c.args.wanted.low e l.0) in
    c.above.ensures y at (omega (arith, ints, c.from.ensures, q))

pub returns-then-cut-le0 : goal.returns-then-cut-le0
returns-then-cut-le0 c x y z h k l e =
    let f0 : FitsSigned w64 c.args.wanted.low = search rules in
    let f1 : FitsSigned w64 c.other_than-cut.result.high = search rules in
    let g0 : FitsSigned w128 c.minus.result = search rules in
    let at = c.other_than-cut.ensures y k (some_modulus x y z e) in
    let q = under_rest x y c.args.wanted.low (some_modulus x y z e) (omega (arith, ints, at.1, c.if-cut-le0.true)) (rest_found x y z c.args.wanted.low e l.0) in
    c.below.ensures y at (omega (arith, ints, c.minus.ensures, q))

pub returns : goal.returns
returns c x y z h k l e =
    c.other_than-cut.ensures y k (some_modulus x y z e)
