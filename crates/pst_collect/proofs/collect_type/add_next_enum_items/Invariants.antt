use Rattle.std.proofs.Common.{◌≡◌, ◌++◌, drop, map}
use Rattle.pst_ast.specs.DeclarationView.{view_next_enum_item}
use Rattle.pst_ast.specs.Declarations.{member, item_name, next_item}
use Rattle.pst_collect.proofs.collect_type.add_next_enum_items.Given as goal

abbrev pub invariant-loop-next : goal.invariant-loop-next
invariant-loop-next l = l.found.items ++ map (λ i. member l.owner l.sort (item_name i)) (map next_item (map view_next_enum_item (drop l.next-index l.items))) ≡ l.initial.found.items ++ map (λ i. member l.owner l.sort (item_name i)) (map next_item (map view_next_enum_item l.items))
