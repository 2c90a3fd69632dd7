use Rattle.std.proofs.Common.{w64, FitsSigned, rules, ap, ◌∙◌}
use Rattle.std.proofs.lemmas.Int.{to_z-of_z}
use Rattle.std.proofs.lemmas.Result.{on_ok_weaker}
use Rattle.pst_model.specs.ModelView.{view_model}
use Rattle.pst_legal.specs.Blanks.{option_value}
use Rattle.pst_blanks.specs.Blanks.{read_blank, blank_of}
use Rattle.pst_blanks.specs.Filling.{first_more, altered_at}
use Rattle.pst_blanks.proofs.Puts.{first_filled}
use Rattle.pst_blanks.proofs.filling.put.Goals as goal

pub returns-in-OfFirst-clause-ok : goal.returns-in-OfFirst-clause-ok
returns-in-OfFirst-clause-ok c =
    let m = view_model c.args.model.now in
    let s = c.args.scenario.now in
    let place = c.args.place.now in
    let v = c.value-value.result in
    let f : FitsSigned w64 v = search rules in
    let z = to_z-of_z w64 v f in
    let is = c.value-value.ensures ∙ ap (λ l. option_value m l (blank_of place) c.args.option) c.as_slice.ensures in
    on_ok_weaker c.fill_first.result
    (λ h. first_filled m s (blank_of place) place.at c.in-OfFirst.pool c.in-OfFirst.field c.args.option v c.fill_first.new.firsts (ap read_blank c.in-OfFirst.is) c.requires.placed.1 c.requires.rising is
    (h ∙ ap (λ w. altered_at (first_more w) place.at s.firsts) z)) c.fill_first.ensures.ok
