use Rattle.std.proofs.Common.{◌≡◌, ◌+ℤ◌, ◌-ℤ◌, FitsSigned, w64, rules, arith}
use Rattle.std.specs.Int.{w128}
use Rattle.std.proofs.lemmas.Int.{ints, to_z-of_z}
use Rattle.pst_operands.proofs.Masks.{turned_cut}
use Rattle.pst_operands.proofs.bits.turned.Goals as goal

pub returns : goal.returns
returns c =
    let f0 : FitsSigned w64 c.args.span.low = search rules in
    let f1 : FitsSigned w64 c.args.span.high = search rules in
    let f2 : FitsSigned w64 c.args.digits.low = search rules in
    let f3 : FitsSigned w64 c.args.digits.high = search rules in
    let f4 : FitsSigned w64 c.args.wanted.low = search rules in
    let f5 : FitsSigned w64 c.args.wanted.high = search rules in
    let g0 : FitsSigned w128 c.minus-low.result = search rules in
    let g1 : FitsSigned w128 c.plus-high.result = search rules in
    let g2 : FitsSigned w128 c.minus-lowest.result = search rules in
    let e0 : c.minus-low.result ≡ c.args.wanted.low -ℤ c.args.digits.high = simp to_z-of_z at c.minus-low.ensures in
    let e1 : c.plus-high.result ≡ c.args.wanted.high +ℤ c.args.digits.high = simp to_z-of_z at c.plus-high.ensures in
    let e2 : c.minus-lowest.result ≡ c.args.digits.low -ℤ c.args.wanted.high = simp to_z-of_z at c.minus-lowest.ensures in
    turned_cut c.args.span c.args.digits c.args.wanted c.at_least.result c.at_least-2.result c.at_most.result c.minus-low.result c.plus-high.result c.minus-lowest.result (omega (arith, ints, c.if-span-lt0.false)) (omega (arith, ints)) (omega (arith, ints, c.if-digits-lt0.false)) (omega (arith, ints)) e0 e1 e2 (simp to_z-of_z at c.at_least.ensures) (simp to_z-of_z at c.at_least-2.ensures) (simp to_z-of_z at c.at_most.ensures)
