use Rattle.std.proofs.Common.{◌≡◌, drop, map}
use Rattle.std.specs.List.{flat_map, fold}
use Rattle.pst_ast.specs.DeclarationView.{view_next_parameter}
use Rattle.pst_ast.specs.Declarations.{next_parameter}
use Rattle.pst_ast.specs.Uses.{parameter_uses}
use Rattle.pst_walk.proofs.show_type.show_next_parameters.Given as goal

abbrev pub invariant-loop-next : goal.invariant-loop-next
invariant-loop-next g l = fold g.V.Visitor.step l.visitor (flat_map (parameter_uses l.component) (map next_parameter (map view_next_parameter (drop l.next-index l.parameters)))) ≡ fold g.V.Visitor.step l.initial.visitor (flat_map (parameter_uses l.component) (map next_parameter (map view_next_parameter l.parameters)))
