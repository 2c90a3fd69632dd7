use Rattle.std.proofs.Common.{arith, ◌≡◌, OnOk, List, ap, sym, subst, ◌∙◌}
use Rattle.std.proofs.lemmas.Grind.{common_steps}
use Rattle.std.specs.List.{fold}
use Rattle.pst_ast.specs.declared.expression.PathNode.{PathNode}
use Rattle.pst_ast.specs.ExpressionView.{view_path}
use Rattle.pst_ast.specs.Uses.{Use, path_uses}
use Rattle.pst_walk_parts.proofs.ExpressionRows.{dotted_uses_are, ranges_uses_are}
use Rattle.pst_walk_parts.proofs.Folds.{fold_append}
use Rattle.pst_walk_parts.proofs.show_expression.+expression_uses.Goals as goal

pub show_path-returns-in_ok-show_part-in-Dotted : goal.show_path-returns-in_ok-show_part-in-Dotted
show_path-returns-in_ok-show_part-in-Dotted g t c = subst (λ (us : List Use). OnOk c.show_next_parts.result (c.show_next_parts.new.visitor ≡ fold g.V.Visitor.step c.args.visitor.now us)) (sym (ap (λ (p : PathNode). path_uses c.args.at.now (view_path p)) c.in-Dotted.is ∙ dotted_uses_are c.args.at.now c.in-Dotted.first c.in-Dotted.rest)) (grind (arith, common_steps, fold_append))

pub show_ranges-returns : goal.show_ranges-returns
show_ranges-returns g t c = subst (λ (us : List Use). OnOk c.show_next_ranges.result (c.show_next_ranges.new.visitor ≡ fold g.V.Visitor.step c.args.visitor.now us)) (sym (ranges_uses_are c.args.at.now c.args.ranges.now)) (grind (arith, common_steps, fold_append))
