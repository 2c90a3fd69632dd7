use Rattle.std.proofs.Common.{rules, ◌≡◌, List, subst, sym, ap, ◌∙◌}
use Rattle.std.specs.Prelude.{Some, None}
use Rattle.std.specs.HashMap.{get}
use Rattle.pst_base.specs.declared.position.Place.{Place}
use Rattle.pst_places.specs.declared.key.PlaceKey.{PlaceKey}
use Rattle.pst_places.specs.Numbers.{number_in, same_key, place_key}
use Rattle.pst_places.proofs.list.PlaceList.number.Goals as goal

pub returns-in-None : goal.returns-in-None
unfolding number_in
returns-in-None c =
    let found : get same_key c.self.inside.numbers (place_key c.args.place) ≡ number_in c.self.inside.places.items c.args.place = c.self.invariant.numbers (place_key c.args.place) in
    let at_key : None ≡ get same_key c.self.inside.numbers c.place_key.result = search rules in
    subst (λ (ps : List Place). None ≡ number_in ps c.args.place) c.self.view_is (at_key ∙ (ap (λ (k : PlaceKey). get same_key c.self.inside.numbers k) c.place_key.ensures ∙ found))

pub returns-in-Some : goal.returns-in-Some
unfolding number_in
returns-in-Some c =
    let found : get same_key c.self.inside.numbers (place_key c.args.place) ≡ number_in c.self.inside.places.items c.args.place = c.self.invariant.numbers (place_key c.args.place) in
    let at_key : Some c.in-Some.number.now ≡ get same_key c.self.inside.numbers c.place_key.result = search rules in
    subst (λ (ps : List Place). Some c.in-Some.number.now ≡ number_in ps c.args.place) c.self.view_is (at_key ∙ (ap (λ (k : PlaceKey). get same_key c.self.inside.numbers k) c.place_key.ensures ∙ found))
