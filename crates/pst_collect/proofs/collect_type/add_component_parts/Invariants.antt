use Rattle.std.proofs.Common.{◌≡◌, ◌++◌, drop, map}
use Rattle.std.specs.List.{flat_map}
use Rattle.pst_ast.specs.DeclarationView.{view_component_part}
use Rattle.pst_ast.specs.Declarations.{in_component_part}
use Rattle.pst_collect.proofs.collect_type.add_component_parts.Given as goal

abbrev pub invariant-loop-part : goal.invariant-loop-part
invariant-loop-part l = l.found.items ++ flat_map (in_component_part l.component) (map view_component_part (drop l.part-index l.parts)) ≡ l.initial.found.items ++ flat_map (in_component_part l.component) (map view_component_part l.parts)
