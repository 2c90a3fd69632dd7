use Rattle.std.proofs.Common.{◌≡◌, ◌+ℤ◌, ◌-ℤ◌, FitsSigned, w64, rules, arith, refl}
use Rattle.std.specs.Int.{w128}
use Rattle.std.proofs.lemmas.Int.{ints, to_z-of_z}
use Rattle.pst_operands.specs.Residues.{IsResidue}
use Rattle.pst_operands.proofs.Residues.{to_same, to_last}
use Rattle.pst_operands.proofs.remainder.to_last.Goals as goal

pub returns-then-left-wanted : goal.returns-then-left-wanted
returns-then-left-wanted c x z h l d =
    let f0 : FitsSigned w64 c.args.span.high = search rules in
    let f1 : FitsSigned w64 c.args.wanted.low = search rules in
    let f2 : FitsSigned w64 c.args.wanted.high = search rules in
    let f3 = c.ranges.modulus in
    let f4 : FitsSigned w64 c.residue-left.result = search rules in
    let k : IsResidue c.args.modulus c.args.span.high c.residue-left.result = simp to_z-of_z at c.residue-left.ensures in
    let g0 : FitsSigned w128 c.moved.result = search rules in
    let e : c.moved.result ≡ (c.args.span.high -ℤ c.residue-left.result) +ℤ c.args.wanted.high = simp to_z-of_z at c.moved.ensures in
    let q = to_same c.args.modulus c.args.span.high c.residue-left.result x z c.requires.modulus k d c.args.wanted.high c.moved.result h.1 l.1 e in
    c.at_most.ensures x h (omega (arith, ints, q))

pub returns-then-left-wanted-2 : goal.returns-then-left-wanted-2
returns-then-left-wanted-2 c x z h l d =
    let f0 : FitsSigned w64 c.args.span.high = search rules in
    let f1 : FitsSigned w64 c.args.wanted.low = search rules in
    let f2 : FitsSigned w64 c.args.wanted.high = search rules in
    let f3 = c.ranges.modulus in
    let f4 : FitsSigned w64 c.residue-left.result = search rules in
    let k : IsResidue c.args.modulus c.args.span.high c.residue-left.result = simp to_z-of_z at c.residue-left.ensures in
    let g0 : FitsSigned w128 c.moved_back.result = search rules in
    let e : c.moved_back.result ≡ ((c.args.span.high -ℤ c.residue-left.result) +ℤ c.args.wanted.high) -ℤ c.args.modulus = simp to_z-of_z at c.moved_back.ensures in
    let q = to_last c.args.modulus c.args.span.high c.residue-left.result x z c.requires.modulus k d c.args.wanted.low c.args.wanted.high ((c.args.span.high -ℤ c.residue-left.result) +ℤ c.args.wanted.high) h.1 l.0 l.1 (omega (arith, ints, c.if-left-wanted-2.true)) refl in
    c.at_most-then-left-wanted-2.ensures x h (omega (arith, ints, q, e))
