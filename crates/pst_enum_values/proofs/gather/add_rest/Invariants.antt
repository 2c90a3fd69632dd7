use Rattle.std.proofs.Common.{◌≡◌, ◌++◌, ◌&&◌, drop, map}
use Rattle.pst_ast.specs.DeclarationView.{view_next_enum_item}
use Rattle.pst_ast.specs.Declarations.{next_item}
use Rattle.pst_evaluate.specs.Kept.{known_in}
use Rattle.pst_enum_values.specs.Gathered.{are_known, place_of_item, values_of}
use Rattle.pst_enum_values.proofs.gather.add_rest.Given as goal

abbrev pub invariant-loop-next : goal.invariant-loop-next
invariant-loop-next l =
    (l.found.items ++ values_of (known_in l.values) (map place_of_item (map next_item (map view_next_enum_item (drop l.next-index l.items))))
    ≡ l.initial.found.items ++ values_of (known_in l.values) (map place_of_item (map next_item (map view_next_enum_item l.items))))
    × ((l.known && are_known (known_in l.values) (map place_of_item (map next_item (map view_next_enum_item (drop l.next-index l.items)))))
    ≡ are_known (known_in l.values) (map place_of_item (map next_item (map view_next_enum_item l.items))))
