use Rattle.std.proofs.Common.{◌≡◌, ◌++◌, drop, map}
use Rattle.pst_ast.specs.DeclarationView.{view_action, view_unit}
use Rattle.pst_type_rules.specs.Sites.{action_of, actions}
use Rattle.pst_site_lists.proofs.actions.list_actions.Given as goal

abbrev pub invariant-loop-unit : goal.invariant-loop-unit
invariant-loop-unit l = map (λ a. action_of (view_action a.now)) l.found.items ++ actions (map view_unit (drop l.unit-index l.units)) ≡ actions (map view_unit l.units)
