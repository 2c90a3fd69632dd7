use Rattle.std.proofs.Common.{◌≡◌, ◌++◌, drop, map}
use Rattle.std.specs.List.{flat_map}
use Rattle.pst_ast.specs.BodyView.{view_body_statement}
use Rattle.pst_ast.specs.Declarations.{in_body_statement}
use Rattle.pst_type_rules.specs.Limits.{is_local}
use Rattle.pst_type_rules.specs.Members.{those_that}
use Rattle.pst_body_parts.proofs.locals.+locals.Given as goal

abbrev pub invariant-add_each-loop-statement : goal.invariant-add_each-loop-statement
invariant-add_each-loop-statement l =
    l.found.items ++ those_that is_local (flat_map (in_body_statement l.owner l.scope) (map view_body_statement (drop l.statement-index l.statements)))
    ≡ l.initial.found.items ++ those_that is_local (flat_map (in_body_statement l.owner l.scope) (map view_body_statement l.statements))
