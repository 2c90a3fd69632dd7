use Rattle.std.proofs.Common.{◌≡◌, drop, map}
use Rattle.std.specs.List.{list_any}
use Rattle.pst_ast.specs.DeclarationView.{view_action_part}
use Rattle.pst_tree.specs.InheritedFound.{is_activity_part}
use Rattle.pst_tree.proofs.sites.has_activity.Given as goal

abbrev pub invariant-loop-part : goal.invariant-loop-part
invariant-loop-part l = list_any is_activity_part (map view_action_part (drop l.part-index l.parts)) ≡ list_any is_activity_part (map view_action_part l.parts)
