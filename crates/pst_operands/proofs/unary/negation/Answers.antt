use Rattle.std.proofs.Common.{◌≡◌, neg_ℤ, FitsSigned, w64, rules, arith}
use Rattle.std.specs.Int.{w128}
use Rattle.std.proofs.lemmas.Int.{ints, to_z-of_z}
use Rattle.pst_operands.proofs.Summands.{negated}
use Rattle.pst_operands.proofs.unary.negation.Goals as goal

pub returns : goal.returns
returns c =
    let f0 : FitsSigned w64 c.args.wanted.low = search rules in
    let f1 : FitsSigned w64 c.args.wanted.high = search rules in
    let f2 : FitsSigned w64 c.args.span.low = search rules in
    let f3 : FitsSigned w64 c.args.span.high = search rules in
    let g0 : FitsSigned w128 c.minus-low.result = search rules in
    let g1 : FitsSigned w128 c.minus-high.result = search rules in
    let e0 : c.minus-low.result ≡ neg_ℤ c.args.wanted.high = omega (arith, ints, c.minus-low.ensures) in
    let e1 : c.minus-high.result ≡ neg_ℤ c.args.wanted.low = omega (arith, ints, c.minus-high.ensures) in
    negated c.args.span c.args.span c.args.wanted c.at_least.result c.at_most.result c.minus-low.result c.minus-high.result (simp to_z-of_z at c.at_least.ensures) (simp to_z-of_z at c.at_most.ensures) e0 e1
