use Rattle.std.proofs.Common.{◌≡◌, ◌++◌, drop, map}
use Rattle.pst_ast.specs.DeclarationView.{view_next_enum_item}
use Rattle.pst_ast.specs.Declarations.{next_item}
use Rattle.pst_evaluate.specs.Kept.{known_in}
use Rattle.pst_enum_values.specs.Gathered.{place_of_item}
use Rattle.pst_field_domains.specs.Known.{points}
use Rattle.pst_field_domains.proofs.points.add_rest.Given as goal

abbrev pub invariant-loop-next : goal.invariant-loop-next
invariant-loop-next l =
    l.found.items ++ points (known_in l.values) (map place_of_item (map next_item (map view_next_enum_item (drop l.next-index l.items))))
    ≡ l.initial.found.items ++ points (known_in l.values) (map place_of_item (map next_item (map view_next_enum_item l.items)))
