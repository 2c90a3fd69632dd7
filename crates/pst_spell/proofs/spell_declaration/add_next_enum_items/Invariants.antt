use Rattle.std.proofs.Common.{◌≡◌, ◌++◌, drop, map}
use Rattle.std.specs.List.{flat_map}
use Rattle.pst_ast.specs.DeclarationView.{view_next_enum_item}
use Rattle.pst_ast.specs.DeclarationSpelling.{spell_next_enum_item}
use Rattle.pst_spell.proofs.spell_declaration.add_next_enum_items.Given as goal

abbrev pub invariant-loop-next : goal.invariant-loop-next
invariant-loop-next l = l.tokens.items ++ flat_map spell_next_enum_item (map view_next_enum_item (drop l.next-index l.items)) ≡ l.initial.tokens.items ++ flat_map spell_next_enum_item (map view_next_enum_item l.items)
