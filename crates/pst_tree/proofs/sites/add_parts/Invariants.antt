use Rattle.std.proofs.Common.{◌≡◌, ◌++◌, drop, map}
use Rattle.std.specs.List.{flat_map}
use Rattle.pst_ast.specs.DeclarationView.{view_component_part}
use Rattle.pst_type_rules.specs.Sites.{actions_in_part}
use Rattle.pst_tree.specs.InheritedFound.{site_of}
use Rattle.pst_tree.proofs.sites.add_parts.Given as goal

abbrev pub invariant-loop-part : goal.invariant-loop-part
invariant-loop-part l =
    l.found.items ++ map site_of (flat_map actions_in_part (map view_component_part (drop l.part-index l.parts))) ≡ l.initial.found.items ++ map site_of (flat_map actions_in_part (map view_component_part l.parts))
