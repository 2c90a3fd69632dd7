use Rattle.std.proofs.Common.{w64, FitsSigned, rules, ap, sym, ◌∙◌}
use Rattle.std.proofs.lemmas.Int.{to_z-of_z}
use Rattle.std.proofs.lemmas.Result.{on_ok_weaker}
use Rattle.pst_legal.specs.SupplyReading.{alter}
use Rattle.pst_legal.specs.ValueReading.{filled_with_value, claimed_with_value}
use Rattle.pst_blanks.specs.Blanks.{read_blank}
use Rattle.pst_blanks.specs.Filling.{act_filled}
use Rattle.pst_blanks.proofs.acts.fill_act.Goals as goal

pub returns-in-OfOutput-clause-ok : goal.returns-in-OfOutput-clause-ok
returns-in-OfOutput-clause-ok c =
    let x = c.args.act.now in
    let f : FitsSigned w64 c.args.value = search rules in
    let z = to_z-of_z w64 c.args.value f in
    on_ok_weaker c.push_output.result (λ h. ap (λ l. record x { references = l }) (h ∙ ap (λ v. alter (filled_with_value v) c.in-OfOutput.reference x.references) z) ∙ ap (λ b. act_filled (read_blank b) c.args.value x) (sym c.in-OfOutput.is)) c.push_output.ensures.ok

pub returns-in-OfClaim-clause-ok : goal.returns-in-OfClaim-clause-ok
returns-in-OfClaim-clause-ok c =
    let x = c.args.act.now in
    let f : FitsSigned w64 c.args.value = search rules in
    let z = to_z-of_z w64 c.args.value f in
    on_ok_weaker c.push_resource.result (λ h. ap (λ l. record x { claims = l }) (h ∙ ap (λ v. alter (claimed_with_value v) c.in-OfClaim.claim x.claims) z) ∙ ap (λ b. act_filled (read_blank b) c.args.value x) (sym c.in-OfClaim.is)) c.push_resource.ensures.ok
