use Rattle.std.proofs.Common.{sym, ◌∙◌}
use Rattle.pst_site_lists.specs.Sited.{view_field_site}
use Rattle.pst_sites.proofs.Found.{found_none, found_some, lent, view_lent}
use Rattle.pst_sites.proofs.find.field_in.Goals as goal

pub returns-in-None : goal.returns-in-None
returns-in-None c = found_none view_field_site (λ f. f.name.place) c.args.fields.now c.args.places.now c.args.place c.requires (sym c.number.ensures ∙ c.in-None.is)

pub returns-in-Some : goal.returns-in-Some
returns-in-Some c =
    let item = lent c.args.fields.now c.in-Some.number c.get.result c.get.ensures.lookup.0 c.get.ensures.lookup.1 in
    view_lent view_field_site c.get.result ∙ found_some view_field_site (λ f. f.name.place) c.args.fields.now c.args.places.now c.args.place c.in-Some.number _ c.requires (sym c.number.ensures ∙ c.in-Some.is) item
