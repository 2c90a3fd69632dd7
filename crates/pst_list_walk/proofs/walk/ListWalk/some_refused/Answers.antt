use Rattle.std.proofs.Common.{◌≡◌, [], sym, subst, refl, false}
use Rattle.pst_model.specs.ModelView.{view_model}
use Rattle.pst_model.specs.Sound.{IsSound}
use Rattle.pst_shape.specs.Walks.{IfRead}
use Rattle.pst_refusals.specs.Answers.{TellsRefusals}
use Rattle.pst_link_walk.specs.Walks.{answer as link_answer}
use Rattle.pst_list_walk.specs.Walks.{answer, IsRead}
use Rattle.pst_list_walk.proofs.Refusing.{inside_earlier, inside_tells, behind_read, earlier_of, tells_same}
use Rattle.pst_list_walk.proofs.Going.{free_told}
use Rattle.pst_list_walk.proofs.walk.ListWalk.some_refused.Goals as goal

pub returns-then-self : goal.returns-then-self
returns-then-self c =
    let w = c.self.inside in
    subst (λ k. IfRead (answer k) (λ s. TellsRefusals (view_model k.model) s false)) c.self.view_is
    (free_told w.model.now w.root w.seed w.level w.links w.values w.free w.linked c.self.invariant.links c.in-None.is c.self.invariant.stands c.self.invariant.linked c.self.invariant.free c.if-self.true)

pub refused_in-requires-clause-sound : goal.refused_in-requires-clause-sound
refused_in-requires-clause-sound c = subst (λ k. IsSound (view_model k.model)) (sym c.self.view_is) c.requires.sound

pub refused_in-requires-clause-earlier : goal.refused_in-requires-clause-earlier
refused_in-requires-clause-earlier c =
    let w = c.self.inside in
    inside_earlier w.model.now w.root w.seed w.level c.nodes_stand_for_pieces.ensures.pieces w.links w.values c.nodes-nodes.result.now c.self.invariant.links c.in-None.is c.self.invariant.stands
    (subst (λ k. IsRead (answer k)) (sym c.self.view_is) c.requires.read) c.nodes-nodes.ensures

pub returns-in_ok-refused-in-None : goal.returns-in_ok-refused-in-None
returns-in_ok-refused-in-None c =
    let w = c.self.inside in
    let r = c.in_ok-refused-in-None.refused in
    subst (λ k. IfRead (answer k) (λ s. TellsRefusals (view_model k.model) s r)) c.self.view_is
    (inside_tells w.model.now w.root w.seed w.level w.links w.values c.nodes-nodes.result.now c.deref.result.now [] r c.self.invariant.links c.in-None.is c.self.invariant.stands c.ends.ensures c.nodes-nodes.ensures
    (subst (λ xs. IfRead (link_answer w.links) (λ s. xs ≡ s.actions)) (sym c.deref.ensures.value) c.in_ok-acts-in-None.ensures) refl c.in_ok-refused-in-None.ensures)

pub refused_of-requires-clause-sound : goal.refused_of-requires-clause-sound
refused_of-requires-clause-sound c = subst (λ k. IsSound (view_model k.model)) (sym c.self.view_is) c.requires.sound

pub refused_of-requires-clause-earlier : goal.refused_of-requires-clause-earlier
refused_of-requires-clause-earlier c =
    let w = c.self.inside in
    let r = c.scenario.result.now in
    earlier_of c.nodes_stand_for_pieces.ensures.pieces c.args.self.now r c.requires.read
    (subst (λ k. IfRead (answer k) (λ s. r ≡ s)) c.self.view_is (behind_read w.model.now w.root w.seed w.level w.links.choices w.values c.in-Some.values r c.in-Some.is c.self.invariant.stands c.scenario.ensures))

pub returns-in_ok-refused-in-Some : goal.returns-in_ok-refused-in-Some
returns-in_ok-refused-in-Some c =
    let w = c.self.inside in
    let r = c.scenario.result.now in
    let k = c.args.self.now in
    tells_same (view_model k.model) (answer k) r c.in_ok-refused-in-Some.refused
    (subst (λ k. IfRead (answer k) (λ s. r ≡ s)) c.self.view_is (behind_read w.model.now w.root w.seed w.level w.links.choices w.values c.in-Some.values r c.in-Some.is c.self.invariant.stands c.scenario.ensures))
    (subst (λ x. TellsRefusals (view_model x.model) r c.in_ok-refused-in-Some.refused) c.self.view_is c.in_ok-refused-in-Some.ensures)
