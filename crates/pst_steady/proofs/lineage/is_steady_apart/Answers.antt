use Rattle.std.proofs.Common.{◌≡◌, List, map, sym, ap, subst, ◌∙◌, Bor, Some}
use Rattle.std.specs.Option.{option_map}
use Rattle.std.proofs.lemmas.Result.{IfOk-weaker}
use Rattle.pst_ast.specs.ActivityTree.{StatementTree}
use Rattle.pst_ast.specs.ActivityView.{view_statement}
use Rattle.pst_ast.specs.DeclarationView.{view_action, view_unit}
use Rattle.pst_ast.specs.declared.activity.StatementNode.{StatementNode}
use Rattle.pst_ast.specs.declared.declaration.ActionNode.{ActionNode}
use Rattle.pst_ast.specs.declared.scope_declaration.Declaration.{Declaration}
use Rattle.pst_ast.specs.Lookups.{base_of}
use Rattle.pst_type_rules.specs.Sites.{DeclaredAction, action_of}
use Rattle.pst_steady.proofs.Apart.{by_own, by_base}
use Rattle.pst_steady.proofs.lineage.is_steady_apart.Goals as goal

view : Bor ActionNode → DeclaredAction
view a = action_of (view_action a.now)

each : Bor (List StatementNode) → List StatementTree
each s = map view_statement s.now

pub returns-in-Some-own_activity : goal.returns-in-Some-own_activity
unfolding view each
returns-in-Some-own_activity c =
    IfOk-weaker c.is_steady.result _ _
    (λ so h. by_own (map view_unit c.args.sites.now) c.args.action.now c.args.handle (view c.in-Some.node) (sym c.action_at.ensures ∙ ap (option_map view) c.in-Some.is)
    (each c.in-Some-own_activity.statements) so (sym c.own_activity.ensures ∙ ap (option_map each) c.in-Some-own_activity.is) h)
    c.is_steady.ensures

pub returns-in-Some-base_of : goal.returns-in-Some-base_of
unfolding view each
returns-in-Some-base_of c =
    by_base (map view_unit c.args.sites.now) c.args.action.now c.args.handle (view c.in-Some.node) (sym c.action_at.ensures ∙ ap (option_map view) c.in-Some.is)
    (sym c.own_activity.ensures ∙ ap (option_map each) c.in-None.is) (sym c.has_body.ensures ∙ c.if-has_body.false) c.in-Some-base_of.base
    (ap (λ (ds : List Declaration). base_of ds c.args.action.now) (sym c.requires.declared) ∙ (sym c.base_of.ensures ∙ c.in-Some-base_of.is)) c.is_steady_base.result c.is_steady_base.ensures
