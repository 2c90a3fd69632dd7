use Rattle.std.proofs.Common.{◌≡◌, ◌++◌, drop}
use Rattle.std.specs.List.{flat_map}
use Rattle.pst_ast.specs.ActivitySpelling.{spell_next_end}
use Rattle.pst_spell_act.proofs.spell_activity.add_next_ends.Given as goal

abbrev pub invariant-loop-next : goal.invariant-loop-next
invariant-loop-next l = l.tokens.items ++ flat_map spell_next_end (drop l.next-index l.ends) ≡ l.initial.tokens.items ++ flat_map spell_next_end l.ends
