use Rattle.std.proofs.Common.{rules, ◌≡◌, sym, ap, subst, ◌∙◌}
use Rattle.std.specs.Prelude.{Option, Some, IfSome}
use Rattle.std.specs.HashMap.{get}
use Rattle.pst_type_members.specs.Keyed.{members_at, scope_key, same_key}
use Rattle.pst_type_members.specs.KeptHandles.{IsHandleRow}
use Rattle.pst_type_members.specs.declared.handles.HandleRow.{HandleRow}
use Rattle.pst_type_members.specs.declared.key.ScopeKey.{ScopeKey}
use Rattle.pst_type_members.proofs.handles.HandleRows.among.Goals as goal

pub returns-in-Some : goal.returns-in-Some
returns-in-Some c = λ ds are.
    let place = c.args.type_.now.name.place in
    let found : Some c.in-Some.row.now ≡ get same_key c.args.self.now.rows c.scope_key.result = search rules in
    let there : Some c.in-Some.row.now ≡ get same_key c.args.self.now.rows (scope_key place) = found ∙ ap (λ (k : ScopeKey). get same_key c.args.self.now.rows k) c.scope_key.ensures in
    c.among.ensures (members_at ds place) (subst (λ (o : Option HandleRow). IfSome o (IsHandleRow (members_at ds place))) (sym there) (are (scope_key place)))
