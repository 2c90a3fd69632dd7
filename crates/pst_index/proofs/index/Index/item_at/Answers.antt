use Rattle.std.proofs.Common.{rules, ◌≡◌, List, subst, ap, ◌∙◌}
use Rattle.std.specs.HashMap.{get}
use Rattle.pst_ast.specs.declared.scope_declaration.Declaration.{Declaration}
use Rattle.pst_ast.specs.Lookups.{item_at}
use Rattle.pst_index.specs.declared.key.Key.{Key}
use Rattle.pst_index.specs.Found.{same_key}
use Rattle.pst_index.specs.Keys
use Rattle.pst_index.proofs.KeyTests.{is_item}
use Rattle.pst_index.proofs.index.Index.item_at.Goals as goal

pub returns : goal.returns
returns c =
    let found : get same_key c.self.inside.items (Keys.name_key c.args.level c.args.name) ≡ item_at c.self.inside.declarations.items c.args.level c.args.name =
    c.self.invariant.items (Keys.name_key c.args.level c.args.name) ∙ is_item c.self.inside.declarations.items c.args.level c.args.name in
    let at_key : c.copied.result ≡ get same_key c.self.inside.items c.name_key.result = search rules in
    subst (λ (ds : List Declaration). c.copied.result ≡ item_at ds c.args.level c.args.name) c.self.view_is (at_key ∙ (ap (λ (k : Key). get same_key c.self.inside.items k) c.name_key.ensures ∙ found))
