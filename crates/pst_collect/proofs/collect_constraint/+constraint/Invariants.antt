use Rattle.std.proofs.Common.{◌≡◌, ◌++◌, drop, map}
use Rattle.std.specs.List.{flat_map}
use Rattle.pst_ast.specs.ConstraintView.{view_constraint_item}
use Rattle.pst_ast.specs.Declarations.{in_item}
use Rattle.pst_collect.proofs.collect_constraint.+constraint.Given as goal

abbrev pub invariant-add_items-loop-item : goal.invariant-add_items-loop-item
invariant-add_items-loop-item l = l.found.items ++ flat_map (in_item l.owner) (map view_constraint_item (drop l.item-index l.items)) ≡ l.initial.found.items ++ flat_map (in_item l.owner) (map view_constraint_item l.items)
