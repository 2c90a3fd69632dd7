use Rattle.std.proofs.Common.{◌≡◌, ◌++◌, drop, map}
use Rattle.std.specs.List.{flat_map}
use Rattle.pst_ast.specs.BodyView.{view_body_statement}
use Rattle.pst_ast.specs.BodySpelling.{spell_body_statement}
use Rattle.pst_spell_parts.proofs.spell_body.+body_spelling.Given as goal

abbrev pub invariant-add_body_statements-loop-statement : goal.invariant-add_body_statements-loop-statement
invariant-add_body_statements-loop-statement l = l.tokens.items ++ flat_map spell_body_statement (map view_body_statement (drop l.statement-index l.statements)) ≡ l.initial.tokens.items ++ flat_map spell_body_statement (map view_body_statement l.statements)
