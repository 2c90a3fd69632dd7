use Rattle.std.proofs.Common.{◌≡◌, ◌++◌, drop, map}
use Rattle.std.specs.List.{flat_map}
use Rattle.pst_ast.specs.DeclarationView.{view_item}
use Rattle.pst_type_rules.specs.Sites.{actions_in_item}
use Rattle.pst_tree.specs.InheritedFound.{site_of}
use Rattle.pst_tree.proofs.sites.add_items.Given as goal

abbrev pub invariant-loop-item : goal.invariant-loop-item
invariant-loop-item l =
    l.found.items ++ map site_of (flat_map actions_in_item (map view_item (drop l.item-index l.items))) ≡ l.initial.found.items ++ map site_of (flat_map actions_in_item (map view_item l.items))
