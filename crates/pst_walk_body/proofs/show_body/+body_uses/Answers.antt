use Rattle.std.proofs.Common.{arith, ◌≡◌, OnOk, List, ap, sym, subst, ◌∙◌}
use Rattle.std.proofs.lemmas.Grind.{common_steps}
use Rattle.std.specs.List.{fold}
use Rattle.pst_ast.specs.declared.body.BodyStatement.{BodyStatement}
use Rattle.pst_ast.specs.BodyView.{view_body_statement}
use Rattle.pst_ast.specs.Uses.{Use, body_statement_uses}
use Rattle.pst_walk_body.proofs.BodyRows.{block_uses_are}
use Rattle.pst_walk_body.proofs.show_body.+body_uses.Goals as goal

pub show_body_statement-returns-in-Block-clause-uses : goal.show_body_statement-returns-in-Block-clause-uses
show_body_statement-returns-in-Block-clause-uses g t c = subst (λ (us : List Use). OnOk c.show_body_statements.result (c.show_body_statements.new.visitor ≡ fold g.V.Visitor.step c.args.visitor.now us)) (sym (ap (λ (k : BodyStatement). body_statement_uses c.args.at.now (view_body_statement k)) c.in-Block.is ∙ block_uses_are c.args.at.now c.in-Block.left_brace c.in-Block.statements c.in-Block.right_brace)) (grind (arith, common_steps))
