use Rattle.std.proofs.Common.{List, sym, subst}
use Rattle.pst_ast.specs.declared.scope_declaration.Declaration.{Declaration}
use Rattle.pst_member_bases.specs.declared.groups.MemberGroup.{MemberGroup}
use Rattle.pst_member_bases.specs.declared.groups.MemberGroup.TheVariants as group
use Rattle.pst_member_bases.specs.Grouped.{AreBasesWith, AreListedBy}
use Rattle.pst_member_bases.proofs.Skipping.{if_ok, listed}
use Rattle.pst_member_bases.proofs.bases.MemberBases.of.Goals as goal

pub returns-in-Handles : goal.returns-in-Handles
returns-in-Handles c =
    let are = subst (λ (ds : List Declaration). AreBasesWith group.Handles ds c.self.inside.handles) c.self.view_is c.self.invariant.handles in
    if_ok c.of.result (λ v is. subst (λ (g : MemberGroup). AreListedBy g c.args.self.now c.args.type_.now v) (sym c.in-Handles.is) (listed group.Handles c.args.self.now c.self.inside.handles c.args.type_.now v.items are is)) c.of.ensures

pub returns-in-Others : goal.returns-in-Others
returns-in-Others c =
    let are = subst (λ (ds : List Declaration). AreBasesWith group.Others ds c.self.inside.others) c.self.view_is c.self.invariant.others in
    if_ok c.of-in-Others.result (λ v is. subst (λ (g : MemberGroup). AreListedBy g c.args.self.now c.args.type_.now v) (sym c.in-Others.is) (listed group.Others c.args.self.now c.self.inside.others c.args.type_.now v.items are is)) c.of-in-Others.ensures
