use Rattle.std.proofs.Common.{sym, ◌∙◌}
use Rattle.std.specs.Prelude.{ℤ, Option}
use Rattle.pst_base.specs.declared.position.Place.{Place}
use Rattle.pst_sources.proofs.Found.{found_none, found_some, lent}
use Rattle.pst_sources.proofs.lookup.item_in.Goals as goal

pub returns-in-None : goal.returns-in-None
returns-in-None c = found_none (λ (x : Place × Option ℤ). x.0) c.args.items.now c.args.places.now c.args.place c.requires (sym c.number.ensures ∙ c.in-None.is)

pub returns-in-Some : goal.returns-in-Some
returns-in-Some c =
    let item = lent c.args.items.now c.in-Some.number c.get.result c.get.ensures.lookup.0 c.get.ensures.lookup.1 in
    found_some (λ (x : Place × Option ℤ). x.0) c.args.items.now c.args.places.now c.args.place c.in-Some.number _ c.requires (sym c.number.ensures ∙ c.in-Some.is) (c.copied.ensures ∙ item)
