use Rattle.std.proofs.Common.{arith, ◌≡◌, ◌++◌, OnOk, List, ap, sym, subst, ◌∙◌}
use Rattle.std.proofs.lemmas.Grind.{common_steps}
use Rattle.pst_ast.specs.declared.body.BodyStatement.{BodyStatement}
use Rattle.pst_ast.specs.BodyView.{view_body_statement}
use Rattle.pst_ast.specs.declared.scope_declaration.Declaration.{Declaration}
use Rattle.pst_ast.specs.Declarations.{in_body_statement}
use Rattle.pst_collect.proofs.BodyRows.{block_declares}
use Rattle.pst_collect.proofs.collect_body.+body.Goals as goal

pub add_body_statement-returns-in-Block : goal.add_body_statement-returns-in-Block
add_body_statement-returns-in-Block t c = subst (λ (ds : List Declaration). OnOk c.add_body_statements.result (c.add_body_statements.new.found.items ≡ c.args.found.now.items ++ ds)) (sym (ap (λ (k : BodyStatement). in_body_statement c.args.owner c.args.scope (view_body_statement k)) c.in-Block.is ∙ block_declares c.args.owner c.args.scope c.in-Block.left_brace c.in-Block.statements c.in-Block.right_brace)) (grind (arith, common_steps))
