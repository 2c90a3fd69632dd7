use Rattle.std.proofs.Common.{◌≡◌, ◌++◌, drop, map}
use Rattle.pst_ast.specs.DeclarationView.{view_unit}
use Rattle.pst_type_rules.specs.Enums.{enums}
use Rattle.pst_site_lists.specs.Sited.{view_enum_site}
use Rattle.pst_site_lists.proofs.enums.list_enums.Given as goal

abbrev pub invariant-loop-unit : goal.invariant-loop-unit
invariant-loop-unit l = map view_enum_site l.found.items ++ enums (map view_unit (drop l.unit-index l.units)) ≡ enums (map view_unit l.units)
