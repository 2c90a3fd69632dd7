use Rattle.std.proofs.Common.{rules, ◌≡◌, List, subst, ap, ◌∙◌}
use Rattle.std.specs.HashMap.{get}
use Rattle.pst_ast.specs.declared.scope_declaration.Declaration.{Declaration}
use Rattle.pst_ast.specs.Lookups.{look_up}
use Rattle.pst_index.specs.declared.key.Key.{Key}
use Rattle.pst_index.specs.Found.{same_key}
use Rattle.pst_index.specs.Keys
use Rattle.pst_index.proofs.KeyTests.{is_name}
use Rattle.pst_index.proofs.index.Index.look_up.Goals as goal

pub returns : goal.returns
returns c =
    let found : get same_key c.self.inside.names (Keys.name_key c.args.scope c.args.name) ≡ look_up c.self.inside.declarations.items c.args.scope c.args.name =
    c.self.invariant.names (Keys.name_key c.args.scope c.args.name) ∙ is_name c.self.inside.declarations.items c.args.scope c.args.name in
    let at_key : c.copied.result ≡ get same_key c.self.inside.names c.name_key.result = search rules in
    subst (λ (ds : List Declaration). c.copied.result ≡ look_up ds c.args.scope c.args.name) c.self.view_is (at_key ∙ (ap (λ (k : Key). get same_key c.self.inside.names k) c.name_key.ensures ∙ found))
