use Rattle.std.proofs.Common.{◌≡◌, ◌++◌, drop, map}
use Rattle.std.specs.List.{flat_map}
use Rattle.pst_ast.specs.SharedView.{view_next_expr}
use Rattle.pst_ast.specs.SharedSpelling.{spell_next_expr}
use Rattle.pst_spell_parts.proofs.spell_shared.add_next_exprs.Given as goal

abbrev pub invariant-loop-next : goal.invariant-loop-next
invariant-loop-next l = l.tokens.items ++ flat_map spell_next_expr (map view_next_expr (drop l.next-index l.parts)) ≡ l.initial.tokens.items ++ flat_map spell_next_expr (map view_next_expr l.parts)
