use Rattle.std.proofs.Common.{w64, FitsSigned, rules, ap, ◌∙◌}
use Rattle.std.proofs.lemmas.Int.{to_z-of_z}
use Rattle.std.proofs.lemmas.Result.{on_ok_weaker}
use Rattle.pst_legal.specs.SupplyReading.{alter}
use Rattle.pst_legal.specs.ValueReading.{claimed_with_value}
use Rattle.pst_blanks.proofs.acts.push_resource.Goals as goal

pub returns-clause-ok : goal.returns-clause-ok
returns-clause-ok c =
    let items = c.into_vec-items.result.items in
    let f : FitsSigned w64 c.args.value = search rules in
    let z = to_z-of_z w64 c.args.value f in
    on_ok_weaker c.push_claimed-pushed.result (λ h. c.from_vec.ensures ∙ h ∙ ap (λ v. alter (claimed_with_value v) c.args.claim items) z ∙ ap (alter (claimed_with_value c.args.value) c.args.claim) (c.into_vec-items.ensures ∙ c.replace.ensures.value)) c.push_claimed-pushed.ensures.ok
