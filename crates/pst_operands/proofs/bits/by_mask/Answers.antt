use Rattle.std.proofs.Common.{FitsSigned, w64, rules, arith}
use Rattle.std.proofs.lemmas.Int.{ints, to_z-of_z}
use Rattle.pst_operands.proofs.Fields.{field_value}
use Rattle.pst_operands.proofs.Masks.{not_negative, a_value}
use Rattle.pst_operands.proofs.bits.by_mask.Goals as goal

pub returns-in-Some : goal.returns-in-Some
returns-in-Some c x z h l e =
    let f0 : FitsSigned w64 c.args.span.high = search rules in
    let f2 = c.ranges.mask in
    let field = simp to_z-of_z at c.in-Some.ensures in
    c.by_field.ensures x z h l (field_value x c.args.mask c.in-Some.field.unit c.in-Some.field.modulus z field (not_negative c.args.span x c.requires.low h) (a_value c.args.span x (omega (arith, ints)) h) e)
