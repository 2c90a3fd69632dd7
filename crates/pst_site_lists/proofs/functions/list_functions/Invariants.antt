use Rattle.std.proofs.Common.{◌≡◌, ◌++◌, drop, map}
use Rattle.pst_ast.specs.DeclarationView.{view_function, view_unit}
use Rattle.pst_type_rules.specs.Sites.{function_of, functions}
use Rattle.pst_site_lists.proofs.functions.list_functions.Given as goal

abbrev pub invariant-loop-unit : goal.invariant-loop-unit
invariant-loop-unit l = map (λ f. function_of (view_function f.now)) l.found.items ++ functions (map view_unit (drop l.unit-index l.units)) ≡ functions (map view_unit l.units)
