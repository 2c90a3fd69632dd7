use Rattle.std.proofs.Common.{◌≡◌, ◌∙◌, subst, map}
use Rattle.std.specs.Prelude.{reverse}
use Rattle.pst_model.specs.ModelView.{view_model}
use Rattle.pst_shape_parts.specs.Trees.{tree_of, bare}
use Rattle.pst_shape.specs.Walks.{IfRead, answer}
use Rattle.pst_shape.proofs.Stands.{made_reads, bare_is, made_grown}
use Rattle.pst_shape.proofs.walk.Walk.leaves.Goals as goal

pub returns : goal.returns
returns c = λ level.
    let w = c.self.inside in
    let m = view_model w.model.now in
    let t = tree_of w.grown in
    let made = reverse w.made.items in
    subst (λ k. IfRead (answer k level) (λ s. c.deref.result.now ≡ map bare s.actions)) c.self.view_is
    (made_reads m w.root w.seed w.start made t level (λ s. c.deref.result.now ≡ map bare s.actions) c.self.invariant (c.deref.ensures.value ∙ bare_is m w.root w.seed level t (made_grown m w.root w.seed w.start made t c.self.invariant)))
