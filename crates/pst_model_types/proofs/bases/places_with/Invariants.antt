use Rattle.std.proofs.Common.{◌≡◌, ◌++◌, drop, map}
use Rattle.std.specs.List.{filter}
use Rattle.pst_ast.specs.DeclarationView.{view_action}
use Rattle.pst_type_rules.specs.Sites.{action_of}
use Rattle.pst_model_types.specs.Marks.{has_constraint}
use Rattle.pst_model_types.proofs.bases.places_with.Given as goal

abbrev pub invariant-loop-action : goal.invariant-loop-action
invariant-loop-action l =
    l.places.items ++ map (λ a. a.name.place) (filter has_constraint (map (λ a. action_of (view_action a.now)) (drop l.action-index l.actions)))
    ≡ l.initial.places.items ++ map (λ a. a.name.place) (filter has_constraint (map (λ a. action_of (view_action a.now)) l.actions))
