use Rattle.std.proofs.Common.{arith, rules, ◌≡◌, IfOk, sym, ap, subst, ◌∙◌}
use Rattle.std.proofs.lemmas.Grind.{common_steps}
use Rattle.pst_ast.specs.declared.expression.PathNode.{PathNode}
use Rattle.pst_ast.specs.ExpressionView.{view_path}
use Rattle.pst_model.specs.ConstraintTree.{SlotTree}
use Rattle.pst_numbering.specs.Kept.{view_reading}
use Rattle.pst_terms.specs.Terms.{Reading}
use Rattle.pst_terms.specs.Readings.{reading_of}
use Rattle.pst_sources.specs.Shown.{sources_of}
use Rattle.pst_path_readings.specs.Set.{view_setting}
use Rattle.pst_path_readings.proofs.Dotted.{dotted_is}
use Rattle.pst_path_readings.proofs.read.reading_of.Goals as goal

pub returns-in_ok-parts-in-Dotted : goal.returns-in_ok-parts-in-Dotted
returns-in_ok-parts-in-Dotted c =
    subst (λ (found : Reading SlotTree). IfOk c.dotted_reading.result (λ r. view_reading r ≡ found))
    (sym (ap (λ (p : PathNode). reading_of (sources_of c.args.sources.now) (view_setting c.args.setting.now) (view_path p)) c.in-Dotted.is ∙ dotted_is (sources_of c.args.sources.now) (view_setting c.args.setting.now) c.in-Dotted.first c.in-Dotted.rest))
    (grind (arith, common_steps))
