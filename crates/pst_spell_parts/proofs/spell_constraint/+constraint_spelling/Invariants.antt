use Rattle.std.proofs.Common.{◌≡◌, ◌++◌, drop, map}
use Rattle.std.specs.List.{flat_map}
use Rattle.pst_ast.specs.ConstraintView.{view_constraint_item}
use Rattle.pst_ast.specs.ConstraintSpelling.{spell_constraint_item}
use Rattle.pst_spell_parts.proofs.spell_constraint.+constraint_spelling.Given as goal

abbrev pub invariant-add_constraint_items-loop-item : goal.invariant-add_constraint_items-loop-item
invariant-add_constraint_items-loop-item l = l.tokens.items ++ flat_map spell_constraint_item (map view_constraint_item (drop l.item-index l.items)) ≡ l.initial.tokens.items ++ flat_map spell_constraint_item (map view_constraint_item l.items)
