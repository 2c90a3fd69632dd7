use Rattle.std.proofs.Common.{◌≡◌, ◌++◌, drop, map}
use Rattle.std.specs.List.{flat_map}
use Rattle.pst_ast.specs.DeclarationView.{view_item}
use Rattle.pst_ast.specs.DeclarationSpelling.{spell_item}
use Rattle.pst_spell.proofs.spell_declaration.add_items.Given as goal

abbrev pub invariant-loop-item : goal.invariant-loop-item
invariant-loop-item l = l.tokens.items ++ flat_map spell_item (map view_item (drop l.item-index l.items)) ≡ l.initial.tokens.items ++ flat_map spell_item (map view_item l.items)
