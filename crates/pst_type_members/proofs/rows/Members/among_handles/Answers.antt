use Rattle.std.proofs.Common.{List, subst}
use Rattle.std.specs.Prelude.{IfSome}
use Rattle.pst_tree.specs.Needed.{needs_within}
use Rattle.pst_ast.specs.Sorts.{is_handle}
use Rattle.pst_ast.specs.declared.scope_declaration.Declaration.{Declaration}
use Rattle.pst_type_members.specs.Among.{IsAmong}
use Rattle.pst_type_members.proofs.rows.Members.among_handles.Goals as goal

pub returns : goal.returns
returns c = subst (λ (ds : List Declaration). IfSome c.among.result (IsAmong (needs_within is_handle ds c.args.type_.now) c.args.handle.now)) c.self.view_is (c.among.ensures c.self.inside.bases.now c.self.invariant.handles)
