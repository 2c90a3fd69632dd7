use Rattle.std.proofs.Common.{map, ap, sym}
use Rattle.std.proofs.lemmas.Result.{IfOk-weaker}
use Rattle.pst_model.specs.ModelView.{view_step}
use Rattle.pst_legal.specs.Pieces.{statements}
use Rattle.pst_legal.specs.Menus.{plain}
use Rattle.pst_shape_parts.specs.Contexts.{context_of}
use Rattle.pst_shape_parts.specs.Trees.{tree_of}
use Rattle.pst_shape_steps.proofs.Levels.{goes_menu}
use Rattle.pst_shape_steps.proofs.step.enter_steps.Goals as goal

pub returns-clause-reads : goal.returns-clause-reads
returns-clause-reads c =
    IfOk-weaker c.go_below.result _ _ (λ at h m. goes_menu m _ _ c.args.levels c.args.parent c.args.below.value (tree_of c.args.grown.now) at (tree_of c.go_below.new.grown)
    (ap (λ xs. plain c.args.fill (statements (context_of c.args.frame.value) (map view_step xs))) (sym c.as_slice.ensures.value)) (h m)) c.go_below.ensures.reads
