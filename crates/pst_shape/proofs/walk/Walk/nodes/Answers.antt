use Rattle.std.proofs.Common.{◌≡◌, subst}
use Rattle.std.specs.Prelude.{reverse}
use Rattle.pst_model.specs.ModelView.{view_model}
use Rattle.pst_shape_parts.specs.Trees.{tree_of}
use Rattle.pst_shape.specs.Walks.{IfRead, answer}
use Rattle.pst_shape.proofs.Stands.{made_reads}
use Rattle.pst_shape.proofs.walk.Walk.nodes.Goals as goal

pub returns : goal.returns
returns c = λ level.
    let w = c.self.inside in
    subst (λ k. IfRead (answer k level) (λ s. c.deref.result.now ≡ s.nodes)) c.self.view_is
    (made_reads (view_model w.model.now) w.root w.seed w.start (reverse w.made.items) (tree_of w.grown) level (λ s. c.deref.result.now ≡ s.nodes) c.self.invariant c.deref.ensures.value)
