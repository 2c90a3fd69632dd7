use Rattle.std.proofs.Common.{◌≡◌, ◌++◌, List, sym, subst, ap, ◌∙◌}
use Rattle.std.specs.Prelude.{OnOk}
use Rattle.pst_ast.specs.declared.scope_declaration.Declaration.{Declaration}
use Rattle.pst_type_rules.specs.Members.{those_that}
use Rattle.pst_action_needs.specs.Inheriting.{is_need_of}
use Rattle.pst_action_needs.proofs.Rowed.{own_in}
use Rattle.pst_action_needs.proofs.rows.add_own.Goals as goal

pub returns : goal.returns
returns c =
    subst (λ (row : List Declaration). OnOk c.add_row.result (c.add_row.new.found.items ≡ c.args.found.now.items ++ row))
    (ap (those_that (is_need_of c.args.by)) c.at.ensures ∙ own_in c.args.by c.args._index.now c.args.members.now c.requires c.args.owner.now) c.add_row.ensures
