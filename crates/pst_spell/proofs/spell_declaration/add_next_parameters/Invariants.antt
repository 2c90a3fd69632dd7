use Rattle.std.proofs.Common.{◌≡◌, ◌++◌, drop, map}
use Rattle.std.specs.List.{flat_map}
use Rattle.pst_ast.specs.DeclarationView.{view_next_parameter}
use Rattle.pst_ast.specs.DeclarationSpelling.{spell_next_parameter}
use Rattle.pst_spell.proofs.spell_declaration.add_next_parameters.Given as goal

abbrev pub invariant-loop-next : goal.invariant-loop-next
invariant-loop-next l = l.tokens.items ++ flat_map spell_next_parameter (map view_next_parameter (drop l.next-index l.parameters)) ≡ l.initial.tokens.items ++ flat_map spell_next_parameter (map view_next_parameter l.parameters)
