use Rattle.std.proofs.Common.{FitsSigned, w64, rules, arith}
use Rattle.std.specs.Int.{w128}
use Rattle.std.proofs.lemmas.Int.{ints, to_z-of_z}
use Rattle.pst_operands.proofs.Factors.{low_lower, low_nearer}
use Rattle.pst_operands.proofs.product.low_by_negative.Goals as goal

pub returns-then-wanted-lt0 : goal.returns-then-wanted-lt0
returns-then-wanted-lt0 c =
    let f0 : FitsSigned w64 c.args.wanted.high = search rules in
    let f1 : FitsSigned w64 c.args.factor.low = search rules in
    let g : FitsSigned w128 c.least_up_to.result = search rules in
    low_lower c.args.span c.args.factor c.args.wanted c.at_least.result c.least_up_to.result c.requires.high (omega (arith, ints, c.if-wanted-lt0.true)) (simp to_z-of_z at c.least_up_to.ensures) (simp to_z-of_z at c.at_least.ensures)

pub returns-else-wanted-lt0 : goal.returns-else-wanted-lt0
returns-else-wanted-lt0 c =
    let f0 : FitsSigned w64 c.args.wanted.high = search rules in
    let f1 : FitsSigned w64 c.args.factor.high = search rules in
    let g : FitsSigned w128 c.least_up_to-else-wanted-lt0.result = search rules in
    low_nearer c.args.span c.args.factor c.args.wanted c.at_least-else-wanted-lt0.result c.least_up_to-else-wanted-lt0.result c.requires.high (omega (arith, ints, c.if-wanted-lt0.false)) (simp to_z-of_z at c.least_up_to-else-wanted-lt0.ensures) (simp to_z-of_z at c.at_least-else-wanted-lt0.ensures)
