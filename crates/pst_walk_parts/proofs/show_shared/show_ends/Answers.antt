use Rattle.std.proofs.Common.{arith, ◌≡◌, OnOk, List, sym, subst}
use Rattle.std.proofs.lemmas.Grind.{common_steps}
use Rattle.std.specs.List.{fold}
use Rattle.pst_ast.specs.Uses.{Use}
use Rattle.pst_walk_parts.proofs.ExpressionRows.{ends_uses_are}
use Rattle.pst_walk_parts.proofs.Folds.{fold_append}
use Rattle.pst_walk_parts.proofs.show_shared.show_ends.Goals as goal

pub returns : goal.returns
returns g c = subst (λ (us : List Use). OnOk c.show_next_ends.result (c.show_next_ends.new.visitor ≡ fold g.V.Visitor.step c.args.visitor.now us)) (sym (ends_uses_are c.args.at.now c.args.ranges.now)) (grind (arith, common_steps, fold_append))
