use Rattle.std.proofs.Common.{◌≡◌, drop, map}
use Rattle.pst_ast.specs.DeclarationView.{view_action_part}
use Rattle.pst_model_types.specs.Marks.{have_constraint}
use Rattle.pst_model_types.proofs.bases.has_constraint.Given as goal

abbrev pub invariant-loop-part : goal.invariant-loop-part
invariant-loop-part l = have_constraint (map view_action_part (drop l.part-index l.node.parts.items)) ≡ have_constraint (map view_action_part l.node.parts.items)
