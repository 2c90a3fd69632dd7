use Rattle.std.proofs.Common.{◌≡◌, ◌++◌, drop, map}
use Rattle.std.specs.List.{flat_map}
use Rattle.pst_ast.specs.BodyView.{view_body_statement}
use Rattle.pst_ast.specs.Declarations.{in_body_statement}
use Rattle.pst_collect.proofs.collect_body.+body.Given as goal

abbrev pub invariant-add_body_statements-loop-statement : goal.invariant-add_body_statements-loop-statement
invariant-add_body_statements-loop-statement l = l.found.items ++ flat_map (in_body_statement l.owner l.scope) (map view_body_statement (drop l.statement-index l.statements)) ≡ l.initial.found.items ++ flat_map (in_body_statement l.owner l.scope) (map view_body_statement l.statements)
