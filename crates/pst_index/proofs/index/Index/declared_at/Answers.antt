use Rattle.std.proofs.Common.{rules, ◌≡◌, List, subst, ap, ◌∙◌}
use Rattle.std.specs.HashMap.{get}
use Rattle.pst_ast.specs.declared.scope_declaration.Declaration.{Declaration}
use Rattle.pst_ast.specs.Lookups.{declared_at}
use Rattle.pst_index.specs.declared.key.Key.{Key}
use Rattle.pst_index.specs.Found.{same_key}
use Rattle.pst_index.specs.Keys
use Rattle.pst_index.proofs.KeyTests.{is_place}
use Rattle.pst_index.proofs.index.Index.declared_at.Goals as goal

pub returns : goal.returns
returns c =
    let found : get same_key c.self.inside.places (Keys.place_key c.args.place) ≡ declared_at c.self.inside.declarations.items c.args.place =
    c.self.invariant.places (Keys.place_key c.args.place) ∙ is_place c.self.inside.declarations.items c.args.place in
    let at_key : c.copied.result ≡ get same_key c.self.inside.places c.place_key.result = search rules in
    subst (λ (ds : List Declaration). c.copied.result ≡ declared_at ds c.args.place) c.self.view_is (at_key ∙ (ap (λ (k : Key). get same_key c.self.inside.places k) c.place_key.ensures ∙ found))
