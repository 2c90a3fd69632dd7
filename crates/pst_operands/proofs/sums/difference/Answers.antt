use Rattle.std.proofs.Common.{◌≡◌, ◌+ℤ◌, ◌-ℤ◌, FitsSigned, w64, rules}
use Rattle.std.specs.Int.{w128}
use Rattle.std.proofs.lemmas.Int.{to_z-of_z}
use Rattle.pst_operands.proofs.Summands.{minuend, subtrahend}
use Rattle.pst_operands.proofs.sums.difference.Goals as goal

pub returns : goal.returns
returns c =
    let f0 : FitsSigned w64 c.args.wanted.low = search rules in
    let f1 : FitsSigned w64 c.args.wanted.high = search rules in
    let f2 : FitsSigned w64 c.args.spans.left.low = search rules in
    let f3 : FitsSigned w64 c.args.spans.left.high = search rules in
    let f4 : FitsSigned w64 c.args.spans.right.low = search rules in
    let f5 : FitsSigned w64 c.args.spans.right.high = search rules in
    let g0 : FitsSigned w128 c.plus-left_low.result = search rules in
    let g1 : FitsSigned w128 c.plus-left_high.result = search rules in
    let g2 : FitsSigned w128 c.minus-right_low.result = search rules in
    let g3 : FitsSigned w128 c.minus-right_high.result = search rules in
    let e0 : c.plus-left_low.result ≡ c.args.wanted.low +ℤ c.args.spans.right.low = simp to_z-of_z at c.plus-left_low.ensures in
    let e1 : c.plus-left_high.result ≡ c.args.wanted.high +ℤ c.args.spans.right.high = simp to_z-of_z at c.plus-left_high.ensures in
    let e2 : c.minus-right_low.result ≡ c.args.spans.left.low -ℤ c.args.wanted.high = simp to_z-of_z at c.minus-right_low.ensures in
    let e3 : c.minus-right_high.result ≡ c.args.spans.left.high -ℤ c.args.wanted.low = simp to_z-of_z at c.minus-right_high.ensures in
    let low = simp to_z-of_z at c.at_least.ensures in
    let high = simp to_z-of_z at c.at_most.ensures in
    let low' = simp to_z-of_z at c.at_least-2.ensures in
    let high' = simp to_z-of_z at c.at_most-2.ensures in
    record {
      left = minuend c.args.spans.left c.args.spans.right c.args.wanted c.at_least.result c.at_most.result c.plus-left_low.result c.plus-left_high.result low high e0 e1;
      right = subtrahend c.args.spans.right c.args.spans.left c.args.wanted c.at_least-2.result c.at_most-2.result c.minus-right_low.result c.minus-right_high.result low' high' e2 e3;
    }
