use Rattle.std.proofs.Common.{◌≡◌, ◌+ℤ◌, ◌-ℤ◌, FitsSigned, w64, rules, arith, refl}
use Rattle.std.specs.Int.{w128}
use Rattle.std.proofs.lemmas.Int.{ints, to_z-of_z}
use Rattle.pst_operands.specs.Residues.{IsResidue}
use Rattle.pst_operands.proofs.Residues.{from_same, from_next}
use Rattle.pst_operands.proofs.remainder.from_first.Goals as goal

pub returns-then-left-wanted : goal.returns-then-left-wanted
returns-then-left-wanted c x z h l d =
    let f0 : FitsSigned w64 c.args.span.low = search rules in
    let f1 : FitsSigned w64 c.args.wanted.low = search rules in
    let f2 : FitsSigned w64 c.args.wanted.high = search rules in
    let f3 = c.ranges.modulus in
    let f4 : FitsSigned w64 c.residue-left.result = search rules in
    let k : IsResidue c.args.modulus c.args.span.low c.residue-left.result = simp to_z-of_z at c.residue-left.ensures in
    let g0 : FitsSigned w128 c.moved.result = search rules in
    let e : c.moved.result ≡ (c.args.span.low -ℤ c.residue-left.result) +ℤ c.args.wanted.low = simp to_z-of_z at c.moved.ensures in
    let q = from_same c.args.modulus c.args.span.low c.residue-left.result x z c.requires.modulus k d c.args.wanted.low c.moved.result h.0 l.0 e in
    c.at_least.ensures x h (omega (arith, ints, q))

pub returns-then-left-wanted-2 : goal.returns-then-left-wanted-2
returns-then-left-wanted-2 c x z h l d =
    let f0 : FitsSigned w64 c.args.span.low = search rules in
    let f1 : FitsSigned w64 c.args.wanted.low = search rules in
    let f2 : FitsSigned w64 c.args.wanted.high = search rules in
    let f3 = c.ranges.modulus in
    let f4 : FitsSigned w64 c.residue-left.result = search rules in
    let k : IsResidue c.args.modulus c.args.span.low c.residue-left.result = simp to_z-of_z at c.residue-left.ensures in
    let g0 : FitsSigned w128 c.moved_on.result = search rules in
    let e : c.moved_on.result ≡ ((c.args.span.low -ℤ c.residue-left.result) +ℤ c.args.wanted.low) +ℤ c.args.modulus = simp to_z-of_z at c.moved_on.ensures in
    let q = from_next c.args.modulus c.args.span.low c.residue-left.result x z c.requires.modulus k d c.args.wanted.low c.args.wanted.high ((c.args.span.low -ℤ c.residue-left.result) +ℤ c.args.wanted.low) h.0 l.0 l.1 (omega (arith, ints, c.if-left-wanted-2.true)) refl in
    c.at_least-then-left-wanted-2.ensures x h (omega (arith, ints, q, e))
