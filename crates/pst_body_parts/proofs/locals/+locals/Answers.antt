use Rattle.std.proofs.Common.{arith, ◌≡◌, ◌++◌, OnOk, List, ap, sym, subst, ◌∙◌}
use Rattle.std.proofs.lemmas.Grind.{common_steps}
use Rattle.pst_ast.specs.declared.body.BodyStatement.{BodyStatement}
use Rattle.pst_ast.specs.BodyView.{view_body_statement}
use Rattle.pst_ast.specs.declared.scope_declaration.Declaration.{Declaration}
use Rattle.pst_ast.specs.Declarations.{in_body_statement}
use Rattle.pst_type_rules.specs.Limits.{is_local}
use Rattle.pst_type_rules.specs.Members.{those_that}
use Rattle.pst_body_parts.proofs.Declared.{block_declares}
use Rattle.pst_body_parts.proofs.LocalLists.{each_more}
use Rattle.pst_body_parts.proofs.locals.+locals.Goals as goal

pub add_locals-returns-in-Block : goal.add_locals-returns-in-Block
add_locals-returns-in-Block t c =
    subst (λ (ds : List Declaration). OnOk c.add_each.result (c.add_each.new.found.items ≡ c.args.found.now.items ++ those_that is_local ds))
    (sym (ap (λ (k : BodyStatement). in_body_statement c.args.owner c.args.scope (view_body_statement k)) c.in-Block.is ∙ block_declares c.args.owner c.args.scope c.in-Block.left_brace c.in-Block.statements c.in-Block.right_brace))
    (grind (arith, common_steps))

pub add_each-loop-statement-preserved : goal.add_each-loop-statement-preserved
add_each-loop-statement-preserved t c =
    each_more (in_body_statement c.args.owner c.args.scope) c.loop-statement.found.items c.add_locals.new.found.items _ c.args.statements.now c.loop-statement.statement-index c.statement-item.result
    c.loop-statement-test.true c.statement-item.is c.in_ok-add_locals.ensures c.loop-statement.invariant
