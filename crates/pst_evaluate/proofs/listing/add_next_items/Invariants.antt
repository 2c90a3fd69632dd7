use Rattle.std.proofs.Common.{◌≡◌, ◌++◌, drop, map, Some}
use Rattle.pst_ast.specs.DeclarationView.{view_next_enum_item}
use Rattle.pst_ast.specs.Declarations.{next_item}
use Rattle.pst_type_rules.specs.Enums.{items_behind}
use Rattle.pst_evaluate.specs.Listed.{view_each}
use Rattle.pst_evaluate.proofs.listing.add_next_items.Given as goal

abbrev pub invariant-loop-next : goal.invariant-loop-next
invariant-loop-next l =
    view_each l.found.items ++ items_behind l.component (Some l.before) (map next_item (map view_next_enum_item (drop l.next-index l.items)))
    ≡ view_each l.initial.found.items ++ items_behind l.component (Some l.initial.before) (map next_item (map view_next_enum_item l.items))
