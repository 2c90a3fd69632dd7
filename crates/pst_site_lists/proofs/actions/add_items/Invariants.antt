use Rattle.std.proofs.Common.{◌≡◌, ◌++◌, drop, map}
use Rattle.std.specs.List.{flat_map}
use Rattle.pst_ast.specs.DeclarationView.{view_action, view_item}
use Rattle.pst_type_rules.specs.Sites.{action_of, actions_in_item}
use Rattle.pst_site_lists.proofs.actions.add_items.Given as goal

abbrev pub invariant-loop-item : goal.invariant-loop-item
invariant-loop-item l =
    map (λ a. action_of (view_action a.now)) l.found.items ++ flat_map actions_in_item (map view_item (drop l.item-index l.items))
    ≡ map (λ a. action_of (view_action a.now)) l.initial.found.items ++ flat_map actions_in_item (map view_item l.items)
