use Rattle.std.proofs.Common.{◌≡◌, ◌∙◌, map, length, sym, arith}
use Rattle.std.proofs.lemmas.List.{length-map}
use Rattle.std.proofs.lemmas.Result.{IfOk-weaker}
use Rattle.pst_model.specs.ModelView.{view_step}
use Rattle.pst_shape_parts.specs.Contexts.{context_of}
use Rattle.pst_shape_parts.specs.Trees.{tree_of}
use Rattle.pst_shape_steps.proofs.Levels.{goes_menu}
use Rattle.pst_shape_steps.proofs.Statements.{chosen_block}
use Rattle.pst_shape_steps.proofs.step.enter_block.Goals as goal

pub returns-else-count-left-clause-reads : goal.returns-else-count-left-clause-reads
returns-else-count-left-clause-reads c =
    let steps = map view_step c.args.steps.now in
    let left : c.in-Ok.left ≡ length steps = c.in-Ok.ensures.1 ∙ sym (length-map c.args.steps.now view_step) in
    IfOk-weaker c.enter_chosen.result _ _ (λ at h m. goes_menu m _ _ c.args.levels c.args.parent c.args.below.value (tree_of c.args.grown.now) at (tree_of c.enter_chosen.new.grown)
    (chosen_block (context_of c.args.frame.value) c.args.parallel c.args.join steps c.in-Choose.count c.in-Ok.left c.new.result.items c.in-Choose.is left (omega arith) c.new.ensures.items) (h m)) c.enter_chosen.ensures.reads
