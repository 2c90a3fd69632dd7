use Rattle.std.proofs.Common.{w64, FitsSigned, rules, ap, ◌∙◌}
use Rattle.std.proofs.lemmas.Int.{to_z-of_z}
use Rattle.std.proofs.lemmas.Result.{on_ok_weaker}
use Rattle.pst_model.specs.ModelView.{view_model}
use Rattle.pst_legal.specs.Blanks.{option_value}
use Rattle.pst_legal.specs.SupplyReading.{alter}
use Rattle.pst_blanks.specs.Blanks.{read_blank}
use Rattle.pst_blanks.specs.Filling.{act_filled}
use Rattle.pst_blanks.proofs.filling.fill_value.Goals as goal

pub returns-clause-ok : goal.returns-clause-ok
returns-clause-ok c =
    let items = c.into_vec-acts.result.items in
    let b = read_blank c.args.blank in
    let f : FitsSigned w64 c.value-value.result = search rules in
    let z = to_z-of_z w64 c.value-value.result f in
    let is = c.value-value.ensures ∙ ap (λ l. option_value (view_model c.args.model.now) l b c.args.option) c.as_slice.ensures in
    on_ok_weaker c.add_value-added.result
    (λ h. c.from_vec.ensures ∙ h ∙ ap (λ v. alter (act_filled b v) c.args.act items) (z ∙ is)
    ∙ ap (alter (act_filled b (option_value (view_model c.args.model.now) c.args.actions.now b c.args.option)) c.args.act) (c.into_vec-acts.ensures ∙ c.replace.ensures.value)) c.add_value-added.ensures.ok
