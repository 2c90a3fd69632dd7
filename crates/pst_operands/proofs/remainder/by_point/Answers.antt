use Rattle.std.proofs.Common.{⊎_elim, neg_ℤ, FitsSigned, w64, rules, subst}
use Rattle.std.proofs.lemmas.Int.{to_z-of_z}
use Rattle.pst_operands.specs.Residues.{IsResidue}
use Rattle.pst_operands.proofs.Residues.{residue_by, turned_residue_by, either_side}
use Rattle.pst_operands.proofs.Dividends.{is_rest}
use Rattle.pst_operands.proofs.remainder.by_point.Goals as goal

pub returns : goal.returns
returns c x z h l e =
    let d = c.args.divisor in
    let m = c.in-Some.modulus in
    let f0 = c.ranges.divisor in
    let f1 : FitsSigned w64 m = search rules in
    let far = simp to_z-of_z at c.in-Some.ensures in
    let law = c.division_rounds_towards_zero.ensures in
    let low = simp to_z-of_z at c.negative_residues-low.ensures in
    let high = simp to_z-of_z at c.residues-high.ensures in
    ⊎_elim
    (λ below. c.joined.ensures.left x (low x z (c.not_positive.ensures.kept x h below) l (subst (λ v. IsResidue m (neg_ℤ x) (neg_ℤ v)) (is_rest x d z e) (turned_residue_by law x d m far.positive far.distance below))))
    (λ above. c.joined.ensures.right x (high x z (c.not_negative.ensures.kept x h above) l (subst (λ v. IsResidue m x v) (is_rest x d z e) (residue_by law x d m far.positive far.distance above))))
    (either_side x)
