use Rattle.std.proofs.Common.{◌≡◌, ◌-ℤ◌, FitsSigned, w64, rules, arith}
use Rattle.std.specs.Int.{w128}
use Rattle.std.proofs.lemmas.Int.{ints, to_z-of_z}
use Rattle.pst_operands.proofs.Masks.{more_cut}
use Rattle.pst_operands.proofs.bits.with_more.Goals as goal

pub returns : goal.returns
returns c =
    let f0 : FitsSigned w64 c.args.span.low = search rules in
    let f1 : FitsSigned w64 c.args.span.high = search rules in
    let f2 : FitsSigned w64 c.args.more.low = search rules in
    let f3 : FitsSigned w64 c.args.more.high = search rules in
    let f4 : FitsSigned w64 c.args.wanted.low = search rules in
    let f5 : FitsSigned w64 c.args.wanted.high = search rules in
    let g0 : FitsSigned w128 c.minus-low.result = search rules in
    let g1 : FitsSigned w128 c.from.result = search rules in
    let e0 : c.minus-low.result ≡ c.args.wanted.low -ℤ c.args.more.high = simp to_z-of_z at c.minus-low.ensures in
    let e1 : c.from.result ≡ c.args.wanted.high = omega (arith, ints, c.from.ensures) in
    more_cut c.args.span c.args.more c.args.wanted c.at_least.result c.at_most.result c.minus-low.result c.from.result (omega (arith, ints, c.if-span-lt0.false)) (omega (arith, ints)) (omega (arith, ints, c.if-more-lt0.false)) (omega (arith, ints)) e0 e1 (simp to_z-of_z at c.at_least.ensures) (simp to_z-of_z at c.at_most.ensures)
