use Rattle.std.proofs.Common.{◌∙◌, ap, sym}
use Rattle.pst_shape.specs.Walks.{next_of}
use Rattle.pst_supply.specs.Walks.{answer as supply_answer}
use Rattle.pst_link_walk.specs.Walks.{answer}
use Rattle.pst_link_walk.proofs.Beginning.{shape_reads}
use Rattle.pst_link_walk.proofs.Answering.{next_same, none_answers, some_answers}
use Rattle.pst_link_walk.proofs.walk.LinkWalk.next.Goals as goal

pub returns-in-None : goal.returns-in-None
returns-in-None c =
    let w = c.self.inside in
    c.next.ensures w.level
    ∙ ap next_of (shape_reads w.model.now w.root w.seed w.level w.shape.choices w.shape c.self.invariant.shape ∙ sym (none_answers w.model.now w.root w.seed w.level w.shape.choices w.supply c.in-None.is c.self.invariant.stands))
    ∙ ap (λ k. next_of (answer k)) c.self.view_is

pub returns-in-Some : goal.returns-in-Some
returns-in-Some c =
    let w = c.self.inside in
    c.next-in-Some.ensures
    ∙ next_same (supply_answer c.in-Some.supply)
    ∙ ap next_of (sym (some_answers w.model.now w.root w.seed w.level w.shape.choices w.supply c.in-Some.supply c.in-Some.is c.self.invariant.stands))
    ∙ ap (λ k. next_of (answer k)) c.self.view_is
