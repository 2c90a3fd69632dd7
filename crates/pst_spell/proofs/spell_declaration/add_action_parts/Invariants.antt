use Rattle.std.proofs.Common.{◌≡◌, ◌++◌, drop, map}
use Rattle.std.specs.List.{flat_map}
use Rattle.pst_ast.specs.DeclarationView.{view_action_part}
use Rattle.pst_ast.specs.DeclarationSpelling.{spell_action_part}
use Rattle.pst_spell.proofs.spell_declaration.add_action_parts.Given as goal

abbrev pub invariant-loop-part : goal.invariant-loop-part
invariant-loop-part l = l.tokens.items ++ flat_map spell_action_part (map view_action_part (drop l.part-index l.parts)) ≡ l.initial.tokens.items ++ flat_map spell_action_part (map view_action_part l.parts)
