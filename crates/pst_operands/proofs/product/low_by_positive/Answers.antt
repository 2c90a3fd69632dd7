use Rattle.std.proofs.Common.{FitsSigned, w64, rules, arith}
use Rattle.std.specs.Int.{w128}
use Rattle.std.proofs.lemmas.Int.{ints, to_z-of_z}
use Rattle.pst_operands.proofs.Factors.{low_greater, low_lesser}
use Rattle.pst_operands.proofs.product.low_by_positive.Goals as goal

pub returns-then-wanted-gt0 : goal.returns-then-wanted-gt0
returns-then-wanted-gt0 c =
    let f0 : FitsSigned w64 c.args.wanted.low = search rules in
    let f1 : FitsSigned w64 c.args.factor.high = search rules in
    let g : FitsSigned w128 c.least_from.result = search rules in
    low_greater c.args.span c.args.factor c.args.wanted c.at_least.result c.least_from.result c.requires.low (omega (arith, ints, c.if-wanted-gt0.true)) (simp to_z-of_z at c.least_from.ensures) (simp to_z-of_z at c.at_least.ensures)

pub returns-else-wanted-gt0 : goal.returns-else-wanted-gt0
returns-else-wanted-gt0 c =
    let f0 : FitsSigned w64 c.args.wanted.low = search rules in
    let f1 : FitsSigned w64 c.args.factor.low = search rules in
    let g : FitsSigned w128 c.least_from-else-wanted-gt0.result = search rules in
    low_lesser c.args.span c.args.factor c.args.wanted c.at_least-else-wanted-gt0.result c.least_from-else-wanted-gt0.result c.requires.low (omega (arith, ints, c.if-wanted-gt0.false)) (simp to_z-of_z at c.least_from-else-wanted-gt0.ensures) (simp to_z-of_z at c.at_least-else-wanted-gt0.ensures)
