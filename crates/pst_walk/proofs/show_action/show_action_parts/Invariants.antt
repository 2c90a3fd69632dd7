use Rattle.std.proofs.Common.{◌≡◌, drop, map}
use Rattle.std.specs.List.{flat_map, fold}
use Rattle.pst_ast.specs.DeclarationView.{view_action_part}
use Rattle.pst_ast.specs.Uses.{action_part_uses}
use Rattle.pst_walk.proofs.show_action.show_action_parts.Given as goal

abbrev pub invariant-loop-part : goal.invariant-loop-part
invariant-loop-part g l = (l.at ≡ l.initial.at) × (fold g.V.Visitor.step l.visitor (flat_map (action_part_uses l.initial.at) (map view_action_part (drop l.part-index l.parts))) ≡ fold g.V.Visitor.step l.initial.visitor (flat_map (action_part_uses l.initial.at) (map view_action_part l.parts)))
