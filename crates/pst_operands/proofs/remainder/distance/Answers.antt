use Rattle.std.proofs.Common.{w64, arith, sym, subst}
use Rattle.std.proofs.lemmas.Int.{ints, to_z-of_z}
use Rattle.pst_operands.specs.Residues.{IsDistance}
use Rattle.pst_operands.proofs.Residues.{distance_above, distance_below}
use Rattle.pst_operands.proofs.remainder.distance.Goals as goal

pub returns-then-number-gt0 : goal.returns-then-number-gt0
returns-then-number-gt0 c =
    let f = c.ranges.number in
    subst (IsDistance c.args.number) (sym (to_z-of_z w64 c.args.number f)) (distance_above c.args.number (omega (arith, ints, c.if-number-gt0.true)))

pub returns-then-number-lt0 : goal.returns-then-number-lt0
returns-then-number-lt0 c =
    let f = c.ranges.number in
    distance_below c.args.number c.neg.result (omega (arith, ints, c.if-number-lt0.true)) (simp to_z-of_z at c.neg.ensures)
