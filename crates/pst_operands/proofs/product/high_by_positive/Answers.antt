use Rattle.std.proofs.Common.{FitsSigned, w64, rules, arith}
use Rattle.std.specs.Int.{w128}
use Rattle.std.proofs.lemmas.Int.{ints, to_z-of_z}
use Rattle.pst_operands.proofs.Factors.{high_greater, high_lesser}
use Rattle.pst_operands.proofs.product.high_by_positive.Goals as goal

pub returns-then-wanted-lt0 : goal.returns-then-wanted-lt0
returns-then-wanted-lt0 c =
    let f0 : FitsSigned w64 c.args.wanted.high = search rules in
    let f1 : FitsSigned w64 c.args.factor.high = search rules in
    let g : FitsSigned w128 c.most_up_to.result = search rules in
    high_greater c.args.span c.args.factor c.args.wanted c.at_most.result c.most_up_to.result c.requires.low (omega (arith, ints, c.if-wanted-lt0.true)) (simp to_z-of_z at c.most_up_to.ensures) (simp to_z-of_z at c.at_most.ensures)

pub returns-else-wanted-lt0 : goal.returns-else-wanted-lt0
returns-else-wanted-lt0 c =
    let f0 : FitsSigned w64 c.args.wanted.high = search rules in
    let f1 : FitsSigned w64 c.args.factor.low = search rules in
    let g : FitsSigned w128 c.most_up_to-else-wanted-lt0.result = search rules in
    high_lesser c.args.span c.args.factor c.args.wanted c.at_most-else-wanted-lt0.result c.most_up_to-else-wanted-lt0.result c.requires.low (omega (arith, ints, c.if-wanted-lt0.false)) (simp to_z-of_z at c.most_up_to-else-wanted-lt0.ensures) (simp to_z-of_z at c.at_most-else-wanted-lt0.ensures)
