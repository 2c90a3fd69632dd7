use Rattle.std.proofs.Common.{◌≡◌, ◌++◌, drop, map}
use Rattle.std.specs.List.{filter}
use Rattle.pst_ast.specs.DeclarationView.{view_action, view_unit}
use Rattle.pst_type_rules.specs.Sites.{action_of}
use Rattle.pst_contents.specs.Marks.{has_content}
use Rattle.pst_contents.proofs.found.places_with.Given as goal

abbrev pub invariant-loop-action : goal.invariant-loop-action
invariant-loop-action l =
    l.places.items ++ filter (has_content (map view_unit l.sites)) (map (λ a. a.name.place) (map (λ a. action_of (view_action a.now)) (drop l.action-index l.actions)))
    ≡ l.initial.places.items ++ filter (has_content (map view_unit l.sites)) (map (λ a. a.name.place) (map (λ a. action_of (view_action a.now)) l.actions))
