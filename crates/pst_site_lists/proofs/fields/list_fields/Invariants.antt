use Rattle.std.proofs.Common.{◌≡◌, ◌++◌, drop, map}
use Rattle.pst_ast.specs.DeclarationView.{view_unit}
use Rattle.pst_type_rules.specs.Sites.{fields}
use Rattle.pst_site_lists.specs.Sited.{view_field_site}
use Rattle.pst_site_lists.proofs.fields.list_fields.Given as goal

abbrev pub invariant-loop-unit : goal.invariant-loop-unit
invariant-loop-unit l = map view_field_site l.found.items ++ fields (map view_unit (drop l.unit-index l.units)) ≡ fields (map view_unit l.units)
