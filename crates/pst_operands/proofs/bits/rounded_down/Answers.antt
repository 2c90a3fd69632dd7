use Rattle.std.proofs.Common.{◌-ℤ◌, FitsSigned, w64, to_z, of_z, rules, sym, ap₂, subst}
use Rattle.std.proofs.lemmas.Int.{to_z-of_z}
use Rattle.pst_operands.specs.Residues.{IsResidue}
use Rattle.pst_operands.proofs.Fields.{back_is, rest_fits}
use Rattle.pst_operands.proofs.bits.rounded_down.Goals as goal

pub overflow_sub-result : goal.overflow_sub-result
overflow_sub-result c =
    let r = c.residue.result in
    let f0 = c.ranges.number in
    let f1 = c.ranges.unit in
    let f2 : FitsSigned w64 r = search rules in
    let d : IsResidue c.args.unit c.args.number r = simp to_z-of_z at c.residue.ensures in
    subst (FitsSigned w64) (sym (ap₂ ◌-ℤ◌ (to_z-of_z w64 c.args.number f0) (to_z-of_z w64 r f2))) (rest_fits c.args.number r f0 f2 c.requires.number d.from_zero)

pub returns : goal.returns
returns c =
    let r = c.residue.result in
    let f0 = c.ranges.number in
    let f1 = c.ranges.unit in
    let f2 : FitsSigned w64 r = search rules in
    let d : IsResidue c.args.unit c.args.number r = simp to_z-of_z at c.residue.ensures in
    subst (λ z. IsResidue c.args.unit c.args.number (c.args.number -ℤ to_z w64 (of_z w64 z))) (sym (ap₂ ◌-ℤ◌ (to_z-of_z w64 c.args.number f0) (to_z-of_z w64 r f2)))
    (subst (IsResidue c.args.unit c.args.number) (back_is c.args.number r f0 f2 c.requires.number d.from_zero) d)
