use Rattle.std.proofs.Common.{rules, ◌≡◌, List, subst, ap, ◌∙◌}
use Rattle.std.specs.HashMap.{get}
use Rattle.pst_ast.specs.declared.scope_declaration.Declaration.{Declaration}
use Rattle.pst_ast.specs.declared.scope_declaration.Scope.TheVariants.{Part}
use Rattle.pst_ast.specs.Lookups.{field_of}
use Rattle.pst_index.specs.declared.key.Key.{Key}
use Rattle.pst_index.specs.Found.{same_key}
use Rattle.pst_index.specs.Keys
use Rattle.pst_index.proofs.KeyTests.{is_field_named}
use Rattle.pst_index.proofs.index.Index.field_of.Goals as goal

pub returns : goal.returns
returns c =
    let object = c.args.object.now in
    let key = Keys.name_key (Part object.name.place) c.args.name in
    let found : get same_key c.self.inside.fields key ≡ field_of c.self.inside.declarations.items object c.args.name =
    c.self.invariant.fields key ∙ is_field_named c.self.inside.declarations.items object c.args.name in
    let at_key : c.copied.result ≡ get same_key c.self.inside.fields c.name_key.result = search rules in
    subst (λ (ds : List Declaration). c.copied.result ≡ field_of ds object c.args.name) c.self.view_is (at_key ∙ (ap (λ (k : Key). get same_key c.self.inside.fields k) c.name_key.ensures ∙ found))
