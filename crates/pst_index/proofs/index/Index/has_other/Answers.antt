use Rattle.std.proofs.Common.{rules, ◌≡◌, true, false, List, Option, sym, ap, ◌∙◌, is_some}
use Rattle.std.specs.HashMap.{get}
use Rattle.std.specs.Prelude.{Some}
use Rattle.std.specs.List.{find}
use Rattle.pst_ast.specs.declared.scope_declaration.Declaration.{Declaration}
use Rattle.pst_ast.specs.Sorts.{same_scope}
use Rattle.pst_ast.specs.Lookups.{item_at}
use Rattle.pst_index.specs.declared.key.Key.{Key}
use Rattle.pst_index.specs.Found.{same_key, is_other_item, is_item_beside}
use Rattle.pst_index.specs.Keys.{name_key}
use Rattle.pst_index.proofs.KeyTests.{is_item}
use Rattle.pst_index.proofs.Beside.{none_beside, first_beside, others_beside}
use Rattle.pst_index.proofs.index.Index.has_other.Goals as goal

pub returns-in-None : goal.returns-in-None
returns-in-None c = none_beside c.args.level c.args.name c.args.enum_ c.args.self.now (sym c.item_at.ensures ∙ c.in-None.is)

pub returns-then-ne : goal.returns-then-ne
returns-then-ne c =
    let apart : same_scope c.in-Some.first.scope c.args.enum_ ≡ false = search rules in
    c.if-ne.true ∙ first_beside c.args.level c.args.name c.args.enum_ c.args.self.now c.in-Some.first (sym c.item_at.ensures ∙ c.in-Some.is) apart

pub returns-else-ne : goal.returns-else-ne
returns-else-ne c =
    let ds = c.self.inside.declarations.items in
    let key = name_key c.args.level c.args.name in
    let same : same_scope c.in-Some.first.scope c.args.enum_ ≡ true = search rules in
    let first : get same_key c.self.inside.items key ≡ Some c.in-Some.first =
    c.self.invariant.items key ∙ is_item ds c.args.level c.args.name
    ∙ ap (λ (xs : List Declaration). item_at xs c.args.level c.args.name) c.self.view_is ∙ (sym c.item_at.ensures ∙ c.in-Some.is) in
    let at_key : c.contains_key.result ≡ is_some (get same_key c.self.inside.others c.name_key.result) = search rules in
    at_key
    ∙ ap (λ (k : Key). is_some (get same_key c.self.inside.others k)) c.name_key.ensures
    ∙ ap (λ (d : Option Declaration). is_some d) (c.self.invariant.others key)
    ∙ ap (λ (d : Option Declaration). is_some (find (is_other_item d key) ds)) first
    ∙ others_beside c.args.level c.args.name c.args.enum_ ds c.in-Some.first same
    ∙ ap (λ (xs : List Declaration). is_some (find (is_item_beside c.args.level c.args.name c.args.enum_) xs)) c.self.view_is
