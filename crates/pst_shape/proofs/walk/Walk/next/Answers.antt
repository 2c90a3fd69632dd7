use Rattle.std.proofs.Common.{◌∙◌, ap, sym}
use Rattle.std.specs.Prelude.{reverse}
use Rattle.pst_model.specs.ModelView.{view_model}
use Rattle.pst_shape_parts.specs.Trees.{tree_of, scenario_of}
use Rattle.pst_shape_steps.specs.Pending.{shown_at}
use Rattle.pst_shape.specs.Choices.{at_after}
use Rattle.pst_shape.specs.Walks.{next_of, answer}
use Rattle.pst_shape.proofs.Stands.{made_answer}
use Rattle.pst_shape.proofs.walk.Walk.next.Goals as goal

pub returns : goal.returns
returns c = λ level.
    let w = c.self.inside in
    let m = view_model w.model.now in
    let s = scenario_of m level (tree_of w.grown) in
    c.next_at.ensures s
    ∙ ap (λ a. next_of (shown_at a s)) (c.at_of.ensures ∙ ap (λ l. at_after w.start (reverse l)) c.deref.ensures.value)
    ∙ ap next_of (sym (made_answer m w.root w.seed w.start (reverse w.made.items) (tree_of w.grown) level c.self.invariant))
    ∙ ap (λ k. next_of (answer k level)) c.self.view_is
