use Rattle.std.proofs.Common.{◌≡◌, drop, map}
use Rattle.std.specs.HashSet.{contains}
use Rattle.std.specs.Ordering.{int_eq}
use Rattle.pst_ast.specs.DeclarationView.{view_next_enum_item}
use Rattle.pst_ast.specs.Declarations.{next_item}
use Rattle.pst_evaluate.specs.Kept.{known_in}
use Rattle.pst_enum_rules.specs.Enums.{least_of_items}
use Rattle.pst_enum_rules.proofs.enums.see_next_items.Given as goal

abbrev pub invariant-loop-next : goal.invariant-loop-next
invariant-loop-next l =
    least_of_items (known_in l.values) (contains int_eq l.seen) l.least (map next_item (map view_next_enum_item (drop l.next-index l.items)))
    ≡ least_of_items (known_in l.values) (contains int_eq l.fn.seen) l.fn.before (map next_item (map view_next_enum_item l.items))
