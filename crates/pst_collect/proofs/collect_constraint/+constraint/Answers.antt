use Rattle.std.proofs.Common.{arith, ◌≡◌, ◌++◌, OnOk, List, ap, sym, subst, ◌∙◌}
use Rattle.std.proofs.lemmas.Grind.{common_steps}
use Rattle.pst_ast.specs.declared.constraint.ConstraintNode.{ConstraintNode}
use Rattle.pst_ast.specs.ConstraintView.{view_constraint}
use Rattle.pst_ast.specs.declared.scope_declaration.Declaration.{Declaration}
use Rattle.pst_ast.specs.Declarations.{in_set}
use Rattle.pst_collect.proofs.ConstraintRows.{block_declares}
use Rattle.pst_collect.proofs.collect_constraint.+constraint.Goals as goal

pub add_set-returns-in-Block : goal.add_set-returns-in-Block
add_set-returns-in-Block t c = subst (λ (ds : List Declaration). OnOk c.add_items.result (c.add_items.new.found.items ≡ c.args.found.now.items ++ ds)) (sym (ap (λ (k : ConstraintNode). in_set c.args.owner (view_constraint k)) c.in-Block.is ∙ block_declares c.args.owner c.in-Block.left_brace c.in-Block.items c.in-Block.right_brace)) (grind (arith, common_steps))
