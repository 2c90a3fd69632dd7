use Rattle.std.proofs.Common.{◌≡◌, ◌++◌, drop}
use Rattle.std.specs.List.{flat_map}
use Rattle.pst_ast.specs.SharedSpelling.{spell_next_name}
use Rattle.pst_spell_parts.proofs.spell_shared.add_next_names.Given as goal

abbrev pub invariant-loop-next : goal.invariant-loop-next
invariant-loop-next l = l.tokens.items ++ flat_map spell_next_name (drop l.next-index l.names) ≡ l.initial.tokens.items ++ flat_map spell_next_name l.names
