use Rattle.std.proofs.Common.{◌≡◌, ◌++◌, drop, map}
use Rattle.std.specs.List.{flat_map}
use Rattle.pst_ast.specs.DeclarationView.{view_action, view_component_part}
use Rattle.pst_type_rules.specs.Sites.{action_of, actions_in_part}
use Rattle.pst_site_lists.proofs.actions.add_parts.Given as goal

abbrev pub invariant-loop-part : goal.invariant-loop-part
invariant-loop-part l =
    map (λ a. action_of (view_action a.now)) l.found.items ++ flat_map actions_in_part (map view_component_part (drop l.part-index l.parts))
    ≡ map (λ a. action_of (view_action a.now)) l.initial.found.items ++ flat_map actions_in_part (map view_component_part l.parts)
