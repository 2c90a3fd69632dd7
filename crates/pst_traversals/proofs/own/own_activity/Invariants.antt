use Rattle.std.proofs.Common.{◌≡◌, drop, map}
use Rattle.std.specs.List.{flat_map}
use Rattle.pst_ast.specs.DeclarationView.{view_action_part}
use Rattle.pst_type_rules.specs.Members.{activities_in}
use Rattle.pst_traversals.specs.Own.{first_in}
use Rattle.pst_traversals.proofs.own.own_activity.Given as goal

abbrev pub invariant-loop-part : goal.invariant-loop-part
invariant-loop-part l = first_in (flat_map activities_in (map view_action_part (drop l.part-index l.part-items))) ≡ first_in (flat_map activities_in (map view_action_part l.part-items))
