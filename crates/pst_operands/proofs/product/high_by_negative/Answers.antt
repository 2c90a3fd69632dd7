use Rattle.std.proofs.Common.{FitsSigned, w64, rules, arith}
use Rattle.std.specs.Int.{w128}
use Rattle.std.proofs.lemmas.Int.{ints, to_z-of_z}
use Rattle.pst_operands.proofs.Factors.{high_lower, high_nearer}
use Rattle.pst_operands.proofs.product.high_by_negative.Goals as goal

pub returns-then-wanted-gt0 : goal.returns-then-wanted-gt0
returns-then-wanted-gt0 c =
    let f0 : FitsSigned w64 c.args.wanted.low = search rules in
    let f1 : FitsSigned w64 c.args.factor.low = search rules in
    let g : FitsSigned w128 c.most_from.result = search rules in
    high_lower c.args.span c.args.factor c.args.wanted c.at_most.result c.most_from.result c.requires.high (omega (arith, ints, c.if-wanted-gt0.true)) (simp to_z-of_z at c.most_from.ensures) (simp to_z-of_z at c.at_most.ensures)

pub returns-else-wanted-gt0 : goal.returns-else-wanted-gt0
returns-else-wanted-gt0 c =
    let f0 : FitsSigned w64 c.args.wanted.low = search rules in
    let f1 : FitsSigned w64 c.args.factor.high = search rules in
    let g : FitsSigned w128 c.most_from-else-wanted-gt0.result = search rules in
    high_nearer c.args.span c.args.factor c.args.wanted c.at_most-else-wanted-gt0.result c.most_from-else-wanted-gt0.result c.requires.high (omega (arith, ints, c.if-wanted-gt0.false)) (simp to_z-of_z at c.most_from-else-wanted-gt0.ensures) (simp to_z-of_z at c.at_most-else-wanted-gt0.ensures)
