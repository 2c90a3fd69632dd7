use Rattle.std.proofs.Common.{◌≡◌, pos, FitsSigned, w64, to_z, of_z, Some, rules, sym, ap, subst, ◌∙◌}
use Rattle.std.proofs.lemmas.Int.{to_z-of_z}
use Rattle.pst_num.specs.Shifts.{shifted_left}
use Rattle.pst_num.specs.Arithmetic.{product_of, difference_of}
use Rattle.pst_operands.specs.Powers.{IsMask, IsField}
use Rattle.pst_operands.proofs.Shifted.{power_of}
use Rattle.pst_operands.proofs.Fields.{field_is}
use Rattle.pst_operands.proofs.bits.field_of.Goals as goal

pub returns-then-top-mask : goal.returns-then-top-mask
returns-then-top-mask c =
    let mask = c.args.mask in
    let unit = c.in_ok-unit.unit in
    let digits = c.in_ok-digits.digits in
    let count = c.in_ok-count.count in
    let modulus = c.in_ok-modulus.modulus in
    let top = c.in_ok-top.top in
    let f0 = c.ranges.mask in
    let f1 : FitsSigned w64 unit = search rules in
    let f2 : FitsSigned w64 digits = search rules in
    let f3 : FitsSigned w64 count = search rules in
    let f4 : FitsSigned w64 modulus = search rules in
    let f5 : FitsSigned w64 top = search rules in
    let f6 : FitsSigned w64 c.from.result = search rules in
    let h : Some unit ≡ shifted_left (pos 1) c.from.result = simp to_z-of_z at c.in_ok-unit.ensures in
    let m : IsMask digits count = simp to_z-of_z at c.in_ok-count.ensures in
    let k : Some modulus ≡ product_of count unit = simp to_z-of_z at c.in_ok-modulus.ensures in
    let l : Some top ≡ difference_of modulus unit = simp to_z-of_z at c.in_ok-top.ensures in
    let is : top ≡ mask = sym (to_z-of_z w64 top f5) ∙ ap (to_z w64) c.if-top-mask.true ∙ to_z-of_z w64 mask f0 in
    subst (λ u. IsField mask u (to_z w64 (of_z w64 modulus))) (sym (to_z-of_z w64 unit f1))
    (subst (λ v. IsField mask unit v) (sym (to_z-of_z w64 modulus f4))
    (field_is c.from.result unit digits count modulus top mask (power_of c.from.result unit (sym h)) m (sym k) (sym l) is))
