use Rattle.std.proofs.Common.{◌≡◌, ◌++◌, drop, map}
use Rattle.std.specs.List.{flat_map}
use Rattle.pst_ast.specs.DeclarationView.{view_next_field}
use Rattle.pst_ast.specs.DeclarationSpelling.{spell_next_field}
use Rattle.pst_spell.proofs.spell_declaration.add_next_fields.Given as goal

abbrev pub invariant-loop-next : goal.invariant-loop-next
invariant-loop-next l = l.tokens.items ++ flat_map spell_next_field (map view_next_field (drop l.next-index l.fields)) ≡ l.initial.tokens.items ++ flat_map spell_next_field (map view_next_field l.fields)
