use Rattle.std.proofs.Common.{◌≡◌, ◌∷◌, [], List, map, sym, ap, subst, ◌∙◌, Bor, Some}
use Rattle.std.specs.Prelude.{slice_get}
use Rattle.std.proofs.lemmas.List.{map-append}
use Rattle.pst_ast.specs.DeclarationView.{view_action}
use Rattle.pst_ast.specs.declared.declaration.ActionNode.{ActionNode}
use Rattle.pst_type_rules.specs.Sites.{DeclaredAction, action_of}
use Rattle.pst_steady.proofs.Lists.{push_keeps}
use Rattle.pst_steady.proofs.seeds.add_seed.Goals as goal

view : Bor ActionNode → DeclaredAction
view a = action_of (view_action a.now)

pub returns-then-is_some-clause-kept : goal.returns-then-is_some-clause-kept
unfolding view
returns-then-is_some-clause-kept c = λ k a e.
    let old = c.args.actions.now.items in
    subst (λ (xs : List DeclaredAction). slice_get xs k ≡ Some a) (sym (ap (map view) c.in_ok-push.ensures.items ∙ map-append view old (c.in-Some.action ∷ [])))
    (push_keeps (map view old) (view c.in-Some.action ∷ []) k a e)
