use Rattle.std.proofs.Common.{◌≡◌, pos, ◌+ℤ◌, ◌-ℤ◌, ◌≤ℤ◌, FitsSigned, w64, rules, arith}
use Rattle.std.specs.Int.{w128}
use Rattle.std.proofs.lemmas.Int.{ints, to_z-of_z}
use Rattle.pst_expr.specs.Spans.{IsInSpan}
use Rattle.pst_operands.proofs.Fields.{rounded_order, rounded_near, rounded_not_negative}
use Rattle.pst_operands.proofs.bits.by_field.Goals as goal

zero_there : IsInSpan (pos 0) (record { low = pos 0; high = pos 0 })
zero_there = (omega (arith, ints), omega (arith, ints))

pub residues-wanted-requires-clause-span : goal.residues-wanted-requires-clause-span
residues-wanted-requires-clause-span c = c.not_negative.ensures.low

pub residues-multiples-requires-clause-span : goal.residues-multiples-requires-clause-span
residues-multiples-requires-clause-span c =
    let f0 : FitsSigned w64 c.args.span.low = search rules in
    let f1 : FitsSigned w64 c.args.field.unit = search rules in
    let f2 : FitsSigned w64 c.rounded_down.result = search rules in
    let low = rounded_not_negative c.args.field.unit c.args.span.low c.rounded_down.result c.requires.unit c.requires.low (simp to_z-of_z at c.rounded_down.ensures) in
    omega (arith, ints, low)

pub returns-then-wanted : goal.returns-then-wanted
returns-then-wanted c x z h l d =
    let f0 : FitsSigned w64 c.args.field.unit = search rules in
    let f1 : FitsSigned w64 c.residues-wanted.result.low = search rules in
    let f2 : FitsSigned w64 c.residues-wanted.result.high = search rules in
    let keeps = simp to_z-of_z at c.residues-wanted.ensures in
    let w = keeps z (pos 0) (c.not_negative.ensures.kept z l d.left.from_zero) zero_there d.even in
    absurd (omega (arith, ints, w.0, w.1, c.if-wanted.true))

pub returns : goal.returns
returns c x z h l d =
    let unit = c.args.field.unit in
    let f0 : FitsSigned w64 unit = search rules in
    let f1 : FitsSigned w64 c.args.field.modulus = search rules in
    let f2 : FitsSigned w64 c.args.span.low = search rules in
    let f3 : FitsSigned w64 c.args.span.high = search rules in
    let f4 : FitsSigned w64 c.rounded_down.result = search rules in
    let f5 : FitsSigned w64 c.rounded_down-2.result = search rules in
    let f6 : FitsSigned w64 c.residues-multiples.result.low = search rules in
    let f7 : FitsSigned w64 c.residues-multiples.result.high = search rules in
    let g0 : FitsSigned w128 c.moved-end.result = search rules in
    let keeps = simp to_z-of_z at c.residues-wanted.ensures in
    let w = keeps z (pos 0) (c.not_negative.ensures.kept z l d.left.from_zero) zero_there d.even in
    let y = d.whole in
    let low : c.rounded_down.result ≤ℤ y = rounded_order unit c.args.span.low c.rounded_down.result x y c.requires.unit (simp to_z-of_z at c.rounded_down.ensures) d.rounded h.0 in
    let high : y ≤ℤ c.rounded_down-2.result = rounded_order unit x y c.args.span.high c.rounded_down-2.result c.requires.unit d.rounded (simp to_z-of_z at c.rounded_down-2.ensures) h.1 in
    let multiples = simp to_z-of_z at c.residues-multiples.ensures in
    let m = multiples y z (low, high) w d.left in
    let near = rounded_near unit x y d.rounded in
    let e : c.moved-end.result ≡ (c.residues-multiples.result.high -ℤ pos 1) +ℤ unit = simp to_z-of_z at c.moved-end.ensures in
    c.at_most.ensures x (c.at_least.ensures x h (omega (arith, ints, c.from.ensures, m.0, near.0))) (omega (arith, ints, e, m.1, near.1))
