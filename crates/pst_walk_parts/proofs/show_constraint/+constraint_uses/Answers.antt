use Rattle.std.proofs.Common.{arith, ◌≡◌, OnOk, List, ap, sym, subst, ◌∙◌}
use Rattle.std.proofs.lemmas.Grind.{common_steps}
use Rattle.std.specs.List.{fold}
use Rattle.pst_ast.specs.declared.constraint.ConstraintNode.{ConstraintNode}
use Rattle.pst_ast.specs.ConstraintView.{view_constraint}
use Rattle.pst_ast.specs.Uses.{Use, set_uses}
use Rattle.pst_walk_parts.proofs.ConstraintRows.{block_uses_are}
use Rattle.pst_walk_parts.proofs.show_constraint.+constraint_uses.Goals as goal

pub show_set-returns-in-Block-clause-uses : goal.show_set-returns-in-Block-clause-uses
show_set-returns-in-Block-clause-uses g t c = subst (λ (us : List Use). OnOk c.show_items.result (c.show_items.new.visitor ≡ fold g.V.Visitor.step c.args.visitor.now us)) (sym (ap (λ (k : ConstraintNode). set_uses c.args.at.now (view_constraint k)) c.in-Block.is ∙ block_uses_are c.args.at.now c.in-Block.left_brace c.in-Block.items c.in-Block.right_brace)) (grind (arith, common_steps))
