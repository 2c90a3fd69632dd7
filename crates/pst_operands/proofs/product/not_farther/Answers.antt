use Rattle.std.proofs.Common.{FitsSigned, rules, arith}
use Rattle.std.specs.Int.{w128}
use Rattle.std.proofs.lemmas.Int.{ints}
use Rattle.pst_operands.proofs.Factors.{no_farther, within_distance}
use Rattle.pst_operands.proofs.product.not_farther.Goals as goal

pub returns : goal.returns
returns c x y z h l e n =
    let g0 : FitsSigned w128 c.farthest-distance.result = search rules in
    let d = within_distance x z c.args.wanted c.farthest-distance.result l (no_farther x y z e n) c.farthest-distance.ensures in
    c.at_most.ensures x (c.at_least.ensures x h (omega (arith, ints, d.0, c.farthest-distance.ensures))) (omega (arith, ints, d.1, c.farthest-distance.ensures))
