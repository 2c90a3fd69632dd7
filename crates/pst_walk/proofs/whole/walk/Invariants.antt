use Rattle.std.proofs.Common.{◌≡◌, drop, map}
use Rattle.std.specs.List.{flat_map, fold}
use Rattle.pst_ast.specs.DeclarationView.{view_unit}
use Rattle.pst_ast.specs.Uses.{unit_uses}
use Rattle.pst_walk.proofs.whole.walk.Given as goal

abbrev pub invariant-loop-unit : goal.invariant-loop-unit
invariant-loop-unit g l = fold g.V.Visitor.step l.visitor (flat_map unit_uses (map view_unit (drop l.unit-index l.units))) ≡ fold g.V.Visitor.step l.initial.visitor (flat_map unit_uses (map view_unit l.units))
