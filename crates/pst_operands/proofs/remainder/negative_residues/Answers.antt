use Rattle.std.proofs.Common.{neg_ℤ, FitsSigned, w64, rules, arith}
use Rattle.std.proofs.lemmas.Int.{ints, to_z-of_z}
use Rattle.pst_operands.proofs.Residues.{turned_in, turned_back}
use Rattle.pst_operands.proofs.remainder.negative_residues.Goals as goal

pub residues-requires-clause-span : goal.residues-requires-clause-span
residues-requires-clause-span c =
    let f : FitsSigned w64 c.args.span.high = search rules in
    let a = c.in-Some.ensures.low in
    omega (arith, ints, a, c.requires.span)

pub returns-in-Some-mirrored-2 : goal.returns-in-Some-mirrored-2
returns-in-Some-mirrored-2 c x z h l d =
    let f = c.ranges.modulus in
    let keeps = simp to_z-of_z at c.residues.ensures in
    turned_back c.residues.result c.in-Some-mirrored-2.cut x c.in-Some-mirrored-2.ensures
    (keeps (neg_ℤ x) (neg_ℤ z) (turned_in c.args.span c.in-Some.turned x c.in-Some.ensures h) (turned_in c.args.wanted c.in-Some-mirrored.wanted z c.in-Some-mirrored.ensures l) d)
