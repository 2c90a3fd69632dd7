use Rattle.std.proofs.Common.{◌∙◌, ap, sym}
use Rattle.pst_shape.specs.Walks.{next_of}
use Rattle.pst_value_walk.specs.Walks.{answer as value_answer}
use Rattle.pst_link_walk.specs.Walks.{answer as link_answer}
use Rattle.pst_list_walk.specs.Walks.{answer}
use Rattle.pst_list_walk.proofs.Answering.{next_same, none_answers, some_answers}
use Rattle.pst_list_walk.proofs.walk.ListWalk.next.Goals as goal

pub returns-in-None : goal.returns-in-None
returns-in-None c =
    let w = c.self.inside in
    c.next.ensures
    ∙ ap (λ k. next_of (link_answer k)) c.self.invariant.links
    ∙ ap next_of (sym (none_answers w.model.now w.root w.seed w.level w.links.choices w.values c.in-None.is c.self.invariant.stands))
    ∙ ap (λ k. next_of (answer k)) c.self.view_is

pub returns-in-Some : goal.returns-in-Some
returns-in-Some c =
    let w = c.self.inside in
    c.next-in-Some.ensures
    ∙ next_same (value_answer c.in-Some.values)
    ∙ ap next_of (sym (some_answers w.model.now w.root w.seed w.level w.links.choices w.values c.in-Some.values c.in-Some.is c.self.invariant.stands))
    ∙ ap (λ k. next_of (answer k)) c.self.view_is
