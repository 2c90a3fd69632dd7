use Rattle.std.proofs.Common.{◌≡◌, drop, map}
use Rattle.std.specs.List.{flat_map}
use Rattle.pst_ast.specs.DeclarationView.{view_action_part}
use Rattle.pst_type_rules.specs.Members.{bodies_in}
use Rattle.pst_traversals.specs.Own.{has_any}
use Rattle.pst_traversals.proofs.own.has_body.Given as goal

abbrev pub invariant-loop-part : goal.invariant-loop-part
invariant-loop-part l = has_any (flat_map bodies_in (map view_action_part (drop l.part-index l.part-items))) ≡ has_any (flat_map bodies_in (map view_action_part l.part-items))
