use Rattle.std.proofs.Common.{◌≡◌, ◌++◌, drop, map}
use Rattle.pst_ast.specs.DeclarationView.{view_unit}
use Rattle.pst_type_rules.specs.Sites.{actions}
use Rattle.pst_tree.specs.InheritedFound.{site_of}
use Rattle.pst_tree.proofs.sites.list_sites.Given as goal

abbrev pub invariant-loop-unit : goal.invariant-loop-unit
invariant-loop-unit l = l.found.items ++ map site_of (actions (map view_unit (drop l.unit-index l.units))) ≡ map site_of (actions (map view_unit l.units))
