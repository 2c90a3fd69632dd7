use Rattle.std.proofs.Common.{◌≡◌, ◌++◌, drop, map}
use Rattle.std.specs.List.{flat_map}
use Rattle.pst_ast.specs.DeclarationView.{view_next_target}
use Rattle.pst_ast.specs.DeclarationSpelling.{spell_next_target}
use Rattle.pst_spell.proofs.spell_declaration.add_next_targets.Given as goal

abbrev pub invariant-loop-next : goal.invariant-loop-next
invariant-loop-next l = l.tokens.items ++ flat_map spell_next_target (map view_next_target (drop l.next-index l.targets)) ≡ l.initial.tokens.items ++ flat_map spell_next_target (map view_next_target l.targets)
