use Rattle.std.proofs.Common.{◌≡◌, ◌++◌, drop, map}
use Rattle.pst_ast.specs.DeclarationView.{view_next_enum_item}
use Rattle.pst_ast.specs.Declarations.{next_item}
use Rattle.pst_sources.specs.Listed.{values_from}
use Rattle.pst_sources.specs.Shown.{sources_of}
use Rattle.pst_sources.proofs.items.add_rest.Given as goal

abbrev pub invariant-loop-item : goal.invariant-loop-item
invariant-loop-item l = l.found.items ++ values_from (sources_of l.known) l.value (map next_item (map view_next_enum_item (drop l.item-index l.items))) ≡ l.initial.found.items ++ values_from (sources_of l.known) l.fn.first (map next_item (map view_next_enum_item l.items))
