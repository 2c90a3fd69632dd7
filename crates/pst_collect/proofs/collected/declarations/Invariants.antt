use Rattle.std.proofs.Common.{◌≡◌, ◌++◌, drop, map}
use Rattle.std.specs.List.{flat_map}
use Rattle.pst_ast.specs.DeclarationView.{view_unit}
use Rattle.pst_ast.specs.Declarations.{in_unit}
use Rattle.pst_collect.proofs.collected.declarations.Given as goal

abbrev pub invariant-loop-unit : goal.invariant-loop-unit
invariant-loop-unit l = l.found.items ++ flat_map in_unit (map view_unit (drop l.unit-index l.units)) ≡ l.initial.found.items ++ flat_map in_unit (map view_unit l.units)
