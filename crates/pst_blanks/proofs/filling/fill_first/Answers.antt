use Rattle.std.proofs.Common.{w64, FitsSigned, rules, ap, sym, ◌∙◌}
use Rattle.std.proofs.lemmas.Int.{to_z-of_z}
use Rattle.std.proofs.lemmas.Result.{on_ok_weaker}
use Rattle.pst_legal.specs.SupplyReading.{alter}
use Rattle.pst_blanks.specs.Filling.{first_more, altered_at}
use Rattle.pst_blanks.proofs.filling.fill_first.Goals as goal

pub returns-clause-ok : goal.returns-clause-ok
returns-clause-ok c =
    let items = c.into_vec-items.result.items in
    let n = c.in-Some.first in
    let f : FitsSigned w64 c.args.value = search rules in
    let z = to_z-of_z w64 c.args.value f in
    on_ok_weaker c.add_first-added.result
    (λ h. c.from_vec.ensures ∙ h ∙ ap (λ v. alter (first_more v) n items) z ∙ ap (alter (first_more c.args.value) n) (c.into_vec-items.ensures ∙ c.replace.ensures.value)
    ∙ ap (λ o. altered_at (first_more c.args.value) o c.args.firsts.now) (sym c.in-Some.is)) c.add_first-added.ensures.ok
