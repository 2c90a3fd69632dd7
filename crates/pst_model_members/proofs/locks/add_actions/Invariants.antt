use Rattle.std.proofs.Common.{◌≡◌, ◌++◌, drop, map}
use Rattle.std.specs.List.{flat_map}
use Rattle.pst_ast.specs.DeclarationView.{view_action}
use Rattle.pst_type_rules.specs.Sites.{action_of}
use Rattle.pst_model_members.specs.Listed.{locked_in_action}
use Rattle.pst_model_members.proofs.locks.add_actions.Given as goal

abbrev pub invariant-loop-action : goal.invariant-loop-action
invariant-loop-action l =
    l.found.items ++ flat_map locked_in_action (map (λ a. action_of (view_action a.now)) (drop l.action-index l.actions))
    ≡ l.initial.found.items ++ flat_map locked_in_action (map (λ a. action_of (view_action a.now)) l.actions)
