use Rattle.std.proofs.Common.{List, ap, ◌∙◌}
use Rattle.pst_ast.specs.declared.scope_declaration.Declaration.{Declaration}
use Rattle.pst_type_members.specs.Keyed.{scope_key, members_at}
use Rattle.pst_type_members.proofs.rows.Members.own.Goals as goal

pub returns : goal.returns
returns c = c.at.ensures ∙ c.self.invariant.rows (scope_key c.args.type_.now.name.place) ∙ ap (λ (ds : List Declaration). members_at ds c.args.type_.now.name.place) c.self.view_is
