use Rattle.std.proofs.Common.{◌≡◌, ◌≤◌, drop, map}
use Rattle.std.specs.List.{fold}
use Rattle.pst_ast.specs.BodyView.{view_body_statement}
use Rattle.pst_ast.specs.Uses.{body_list_uses}
use Rattle.pst_walk_body.specs.Locals.{without_inner}
use Rattle.pst_walk_body.proofs.show_body.+body_uses.Given as goal

abbrev pub invariant-show_body_statements-loop-statement : goal.invariant-show_body_statements-loop-statement
invariant-show_body_statements-loop-statement g l = (l.locals ≤ l.statement-index) × (without_inner l.locals l.at ≡ l.initial.at) × (fold g.V.Visitor.step l.visitor (body_list_uses l.at (map view_body_statement (drop l.statement-index l.statements))) ≡ fold g.V.Visitor.step l.initial.visitor (body_list_uses l.initial.at (map view_body_statement l.statements)))
